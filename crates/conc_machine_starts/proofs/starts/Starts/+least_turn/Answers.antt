use Rattle.std.proofs.Common.{◌∙◌, ap, sym, ◌-◌, arith}
use Rattle.conc_event_queue.specs.Least.{lesser}
use Rattle.conc_machine_starts.proofs.LeastTurns.{least-more, least-nowhere}
use Rattle.conc_machine_starts.proofs.starts.Starts.+least_turn.Goals as goal

pub returns-then-count-eq0 : goal.returns-then-count-eq0
returns-then-count-eq0 t c = λ plan s are. sym (least-nowhere plan s c.args.from c.args.count c.if-count-eq0.true)

pub returns : goal.returns
returns t c = λ plan s are.
    c.lesser.ensures
    ∙ ap (λ x. lesser x c.least_turn.result) (c.least_turn_at.ensures plan s are)
    ∙ ap (lesser _) (c.least_turn.ensures plan s are)
    ∙ sym (least-more plan s c.args.from c.args.count (c.args.count - 1) (omega arith))
