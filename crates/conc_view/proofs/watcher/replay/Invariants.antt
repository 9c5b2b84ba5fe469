use Rattle.conc_restart.specs.Machines.{plan_of}
use Rattle.conc_view.proofs.Replayed.{HasTaken}
use Rattle.conc_view.proofs.watcher.replay.Given as goal

abbrev pub invariant-loop-i : goal.invariant-loop-i
invariant-loop-i l = HasTaken (plan_of l.initial.machine) l.events l.machine l.i
