use Rattle.conc_event_reach.proofs.Widening.{AreUpTo}
use Rattle.conc_event_reach.proofs.spans.Spans.new.Given as goal

abbrev pub invariant-loop-i : goal.invariant-loop-i
invariant-loop-i l = AreUpTo l.plan l.commands l.members l.i
