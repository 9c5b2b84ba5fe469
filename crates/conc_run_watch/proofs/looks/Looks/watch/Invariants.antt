use Rattle.conc_run_watch.specs.Looks.{Goes}
use Rattle.conc_run_watch.proofs.looks.Looks.watch.Given as goal

abbrev pub invariant-loop : goal.invariant-loop
invariant-loop g l = Goes l.initial.self l.self
