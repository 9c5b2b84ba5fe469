-- Where the same facts stand, the same is kept.
use Rattle.std.proofs.Common.{sym, ◌∙◌}
use Rattle.conc_types.specs.declared.facts.State.{State}
use Rattle.conc_types.specs.declared.plan.Plan.{Plan}
use Rattle.conc_base_law.specs.Next.{has_step, is_left_running, runs_somewhere}
use Rattle.conc_event_queue.specs.Written.{IsAlike}
use Rattle.conc_event_queue.proofs.Maps.{facts_at-alike, numbers_of-alike}
use Rattle.conc_machine_steps.specs.declared.running.Running.{Running}
use Rattle.conc_machine_steps.specs.declared.steps.Steps.{Steps}
use Rattle.conc_machine_steps.specs.Steps.{AreRunning, AreSteps}
use Rattle.conc_machine_steps.proofs.Same.{has_step-same, is_left-same, runs-same}

pub AreRunning-alike : (plan : Plan) (before after : State) → IsAlike before after → (running : Running)
    → AreRunning plan before running → AreRunning plan after running
AreRunning-alike plan before after alike running are = record {
  all = are.all ∙ sym (numbers_of-alike plan (runs_somewhere before) (runs_somewhere after) (λ q has. runs-same before after q (facts_at-alike before after alike q)));
  left = are.left ∙ sym (numbers_of-alike plan (is_left_running before) (is_left_running after) (λ q has. is_left-same before after q (facts_at-alike before after alike q)));
}

pub AreSteps-alike : (plan : Plan) (before after : State) → IsAlike before after → (steps : Steps)
    → AreSteps plan before steps → AreSteps plan after steps
AreSteps-alike plan before after alike steps are = record {
  due = are.due ∙ sym (numbers_of-alike plan (has_step plan before) (has_step plan after)
      (λ q has. has_step-same plan before after q (facts_at-alike before after alike q) (λ stage x h member. facts_at-alike before after alike x)));
}
