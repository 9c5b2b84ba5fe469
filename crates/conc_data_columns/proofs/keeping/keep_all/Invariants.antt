use Rattle.std.proofs.Common.{◌≡◌}
use Rattle.conc_data_columns.proofs.keeping.keep_all.Given as goal

abbrev pub invariant-loop-one : goal.invariant-loop-one
invariant-loop-one l = l.table ≡ l.fn.table
