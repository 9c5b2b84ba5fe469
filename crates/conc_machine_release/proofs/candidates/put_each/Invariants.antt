use Rattle.std.proofs.Common.{drop}
use Rattle.conc_machine_release.proofs.PutRight.{PutsRightBut}
use Rattle.conc_machine_release.proofs.candidates.put_each.Given as goal

abbrev pub invariant-loop-class : goal.invariant-loop-class
invariant-loop-class l = PutsRightBut l.ready l.rivals l.classes (drop l.class-index l.classes) l.fn.candidates l.candidates
