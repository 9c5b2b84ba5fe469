use Rattle.conc_event_classes.specs.Shelves.{AreShelvesTo}
use Rattle.conc_event_classes.proofs.shelves.Shelves.new.Given as goal

abbrev pub invariant-loop-i : goal.invariant-loop-i
invariant-loop-i l = AreShelvesTo l.plan l.heads l.i l.shelves
