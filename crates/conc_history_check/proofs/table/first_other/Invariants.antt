use Rattle.std.proofs.Common.{length}
use Rattle.conc_history_check.proofs.Comparing.{Agrees}
use Rattle.conc_history_check.proofs.table.first_other.Given as goal

abbrev pub invariant-loop-line : goal.invariant-loop-line
invariant-loop-line l = Agrees l.fn.table l.fn.text l.table l.text l.number

abbrev pub decreases-loop-line : goal.decreases-loop-line
decreases-loop-line l = length l.table
