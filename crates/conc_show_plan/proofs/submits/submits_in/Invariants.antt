use Rattle.std.proofs.Common.{length}
use Rattle.conc_show_plan.proofs.Submitted.{IsRead}
use Rattle.conc_show_plan.proofs.submits.submits_in.Given as goal

abbrev pub invariant-loop-row : goal.invariant-loop-row
invariant-loop-row l = IsRead l.fn.records l.records l.submits.items l.number

abbrev pub decreases-loop-row : goal.decreases-loop-row
decreases-loop-row l = length l.records
