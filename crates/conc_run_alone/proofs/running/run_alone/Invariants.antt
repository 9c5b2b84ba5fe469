use Rattle.conc_run_state.specs.Disks.{disks}
use Rattle.conc_run_state.specs.Lists.{GoesOnAlone}
use Rattle.conc_run_state.specs.Works.{list_in}
use Rattle.conc_run_steps.specs.Steps.{left_in, plan_in, readings_in}
use Rattle.conc_run_steps.specs.Going.{IsUnderway}
use Rattle.conc_run_alone.proofs.running.run_alone.Given as goal

abbrev pub invariant-loop : goal.invariant-loop
invariant-loop g l = record {
  under : IsUnderway l.initial.work l.work
      (disks (g.D.Disk.state l.initial.journal) (g.D.Disk.state l.journal) (g.E.Disk.state l.initial.spool) (g.E.Disk.state l.spool));
  alone : GoesOnAlone (plan_in l.initial.work) (readings_in l.initial.work) (list_in l.initial.work) (list_in l.work);
}

abbrev pub decreases-loop : goal.decreases-loop
decreases-loop g l = left_in l.work
