use Rattle.std.proofs.Common.{sym, ◌∙◌, ap}
use Rattle.std.specs.Option.{option_and_then, option_map}
use Rattle.conc_base_law.specs.Next.{forced_let, let_event, may_let}
use Rattle.conc_event_queue.specs.Turns.{request_at_turn}
use Rattle.conc_event_queue.proofs.Firsts.{first-least}
use Rattle.conc_machine_release.proofs.lets.Lets.forced_let.Goals as goal

pub returns : goal.returns
unfolding forced_let
returns c =
    c.event_at.ensures
    ∙ ap (λ o. option_map let_event (option_and_then (request_at_turn c.args.plan.now) o)) c.least_turn.ensures
    ∙ ap (option_map let_event) (sym (first-least c.args.plan.now (may_let c.args.plan.now c.args.state.now)))
