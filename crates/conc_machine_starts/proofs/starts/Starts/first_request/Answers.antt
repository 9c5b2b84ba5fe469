use Rattle.std.proofs.Common.{◌∙◌, ap, sym}
use Rattle.std.specs.Option.{option_and_then, option_copied}
use Rattle.conc_event_queue.specs.Turns.{request_at_turn}
use Rattle.conc_machine_starts.proofs.LeastTurns.{first-somewhere}
use Rattle.conc_machine_starts.proofs.starts.Starts.first_request.Goals as goal

pub returns-in_err-turn : goal.returns-in_err-turn
returns-in_err-turn c = λ s are.
    ap option_copied c.from_residual.ensures
    ∙ ap (option_and_then (request_at_turn c.args.plan.now)) (c.in_err-turn.ensures c.args.plan.now s are)
    ∙ sym (first-somewhere c.args.plan.now s c.place_count.result c.place_count.ensures.count)

pub returns : goal.returns
returns c = λ s are.
    c.request_at_turn.ensures
    ∙ ap (option_and_then (request_at_turn c.args.plan.now)) (c.in_ok-turn.ensures c.args.plan.now s are)
    ∙ sym (first-somewhere c.args.plan.now s c.place_count.result c.place_count.ensures.count)
