use Rattle.std.proofs.Common.{◌<◌}
use Rattle.conc_data_columns.specs.declared.numbering.TheConstants.{SLOTS}
use Rattle.conc_data_columns.proofs.numbering.find.Given as goal

abbrev pub invariant-loop : goal.invariant-loop
invariant-loop l = l.slot < SLOTS
