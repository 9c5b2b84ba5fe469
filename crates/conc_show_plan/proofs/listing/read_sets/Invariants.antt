use Rattle.std.proofs.Common.{length}
use Rattle.conc_show_plan.proofs.Listed.{IsRead}
use Rattle.conc_show_plan.proofs.listing.read_sets.Given as goal

abbrev pub invariant-loop-line : goal.invariant-loop-line
invariant-loop-line l = IsRead l.listing l.rest l.sets.items

abbrev pub decreases-loop-line : goal.decreases-loop-line
decreases-loop-line l = length l.rest
