use Rattle.conc_view.proofs.Counted.{AreCounts}
use Rattle.conc_view.proofs.counting.counts.Given as goal

abbrev pub invariant-loop-i : goal.invariant-loop-i
invariant-loop-i l = AreCounts l.machine l.counts l.i
