use Rattle.conc_restart.proofs.ReadSoFar.{HasRead}
use Rattle.conc_restart.proofs.resuming.resume.Given as goal

abbrev pub invariant-loop-place : goal.invariant-loop-place
invariant-loop-place l = HasRead l.plan l.events l.machine l.place
