use Rattle.conc_machine_release.specs.Candidates.{classes_within}
use Rattle.conc_machine_release.proofs.PutRight.{PutsRightBut}
use Rattle.conc_machine_release.proofs.candidates.put_within.Given as goal

abbrev pub invariant-loop-i : goal.invariant-loop-i
invariant-loop-i l = PutsRightBut l.ready l.rivals (classes_within l.plan l.classes l.fn.span)
    (classes_within l.plan l.classes (record { from = l.i; to = l.fn.span.to })) l.fn.candidates l.candidates
