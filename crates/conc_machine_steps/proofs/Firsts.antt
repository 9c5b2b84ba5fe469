-- The first request of those that are kept is the one with the least number.
use Rattle.std.proofs.Common.{◌≡◌, sym, ◌∙◌, ap}
use Rattle.std.specs.List.{find}
use Rattle.std.specs.Option.{option_and_then}
use Rattle.conc_types.specs.declared.facts.State.{State}
use Rattle.conc_types.specs.declared.plan.Plan.{Plan}
use Rattle.conc_base_law.specs.Next.{has_step, is_left_running, runs_somewhere}
use Rattle.conc_event_queue.specs.Least.{least}
use Rattle.conc_event_queue.specs.Turns.{request_numbered}
use Rattle.conc_event_queue.proofs.Firsts.{find-least}
use Rattle.conc_machine_steps.specs.declared.running.Running.{Running}
use Rattle.conc_machine_steps.specs.declared.steps.Steps.{Steps}
use Rattle.conc_machine_steps.specs.Steps.{AreRunning, AreSteps}

pub first_running : (plan : Plan) (s : State) (running : Running) → AreRunning plan s running
    → option_and_then (request_numbered plan) (least running.all) ≡ find (runs_somewhere s) plan.requests
first_running plan s running are =
    ap (λ slots. option_and_then (request_numbered plan) (least slots)) are.all ∙ sym (find-least plan (runs_somewhere s))

pub first_left : (plan : Plan) (s : State) (running : Running) → AreRunning plan s running
    → option_and_then (request_numbered plan) (least running.left) ≡ find (is_left_running s) plan.requests
first_left plan s running are =
    ap (λ slots. option_and_then (request_numbered plan) (least slots)) are.left ∙ sym (find-least plan (is_left_running s))

pub first_due : (plan : Plan) (s : State) (steps : Steps) → AreSteps plan s steps
    → option_and_then (request_numbered plan) (least steps.due) ≡ find (has_step plan s) plan.requests
first_due plan s steps are =
    ap (λ slots. option_and_then (request_numbered plan) (least slots)) are.due ∙ sym (find-least plan (has_step plan s))
