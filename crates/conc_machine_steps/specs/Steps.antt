-- What is kept of the requests that run, and of the open sets that have something to do.
use Rattle.std.specs.Prelude.{◌≡◌}
use Rattle.conc_types.specs.declared.facts.State.{State}
use Rattle.conc_types.specs.declared.plan.Plan.{Plan}
use Rattle.conc_base_law.specs.Next.{has_step, is_left_running, runs_somewhere}
use Rattle.conc_event_queue.specs.Turns.{numbers_of}
use Rattle.conc_machine_steps.specs.declared.running.Running.{Running}
use Rattle.conc_machine_steps.specs.declared.steps.Steps.{Steps}

-- what is kept is what the state says: the numbers of the requests that run, and of those that an earlier life left running
pub record AreRunning (plan : Plan) (s : State) (running : Running) : Type 0 where
  pub all : running.all ≡ numbers_of (runs_somewhere s) plan.requests
  pub left : running.left ≡ numbers_of (is_left_running s) plan.requests

-- the numbers of the open sets that have something to do
pub record AreSteps (plan : Plan) (s : State) (steps : Steps) : Type 0 where
  pub due : steps.due ≡ numbers_of (has_step plan s) plan.requests
