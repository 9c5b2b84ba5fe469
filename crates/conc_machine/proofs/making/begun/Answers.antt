use Rattle.std.proofs.Common.{sym, subst, refl}
use Rattle.conc_event_reach.proofs.InLife.{none-started}
use Rattle.conc_machine_release.specs.Lets.{AreLets}
use Rattle.conc_machine_starts.specs.Starts.{AreStarts}
use Rattle.conc_machine_steps.specs.Steps.{AreRunning, AreSteps}
use Rattle.conc_machine.proofs.States.{all-facts, all-flags, first-command}
use Rattle.conc_machine.proofs.making.begun.Goals as goal

pub returns-clause-indexes : goal.returns-clause-indexes
returns-clause-indexes c =
    let plan = c.args.plan.now in
    let none : _ = sym c.in_ok-begin.ensures in
    record {
      parts = record {
        all = all-facts plan _ c.in_ok-begin.ensures;
        spans = c.in_ok-new.ensures;
        classes = c.in_ok-classes.ensures;
        running = subst (λ s. AreRunning plan s c.in_ok-new-2.field-0) none c.in_ok-new-2.ensures;
        steps = subst (λ s. AreSteps plan s c.in_ok-new-3.field-0) none c.in_ok-new-3.ensures;
        lets = subst (λ s. AreLets plan c.in_ok-classes.classes s c.in_ok-new-4.field-0) none c.in_ok-new-4.ensures;
        starts = subst (λ s. AreStarts plan s c.in_ok-new-5.field-0) none c.in_ok-new-5.ensures;
      };
      flags = all-flags plan _ c.in_ok-begin.ensures;
      command = first-command plan _ c.in_ok-begin.ensures;
      started = none-started plan _ _ c.in_ok-begin.ensures refl;
    }
