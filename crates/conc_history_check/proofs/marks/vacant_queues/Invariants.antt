use Rattle.conc_history_check.proofs.Slots.{AreVacantTo}
use Rattle.conc_history_check.proofs.marks.vacant_queues.Given as goal

abbrev pub invariant-loop-class : goal.invariant-loop-class
invariant-loop-class l = AreVacantTo l.classes l.class l.queues.items
