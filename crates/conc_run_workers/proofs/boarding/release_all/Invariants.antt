use Rattle.conc_run_workers.specs.Resolving.{StaysAt}
use Rattle.conc_run_workers.proofs.boarding.release_all.Given as goal

abbrev pub invariant-loop-request : goal.invariant-loop-request
invariant-loop-request l = StaysAt l.board l.initial.desk l.desk
