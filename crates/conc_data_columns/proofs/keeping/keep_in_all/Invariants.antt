use Rattle.std.proofs.Common.{◌≡◌}
use Rattle.conc_data_columns.proofs.keeping.keep_in_all.Given as goal

abbrev pub invariant-loop-place : goal.invariant-loop-place
invariant-loop-place g l = l.tables.items ≡ l.fn.tables.items
