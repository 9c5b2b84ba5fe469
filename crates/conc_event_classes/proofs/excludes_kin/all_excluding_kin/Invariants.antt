use Rattle.std.proofs.Common.{take}
use Rattle.conc_event_classes.specs.ExcludesKin.{AreKinMarked}
use Rattle.conc_event_classes.proofs.excludes_kin.all_excluding_kin.Given as goal

abbrev pub invariant-loop-i : goal.invariant-loop-i
invariant-loop-i l = AreKinMarked (take l.i l.plan.requests) l.classes l.rows l.excludes_kin.items
