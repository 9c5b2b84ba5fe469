use Rattle.std.proofs.Common.{◌+◌, length, get_or, drop, ap, sym, ◌∙◌, arith}
use Rattle.conc_event_queue.specs.Least.{least, lesser}
use Rattle.conc_event_queue.specs.Turns.{turns_of}
use Rattle.conc_machine_release.specs.Forced.{has_only_kin_rivals}
use Rattle.conc_event_queue.proofs.LeastTurns.{least-end, least-next}
use Rattle.conc_machine_release.proofs.forced.least_with_only_kin_rivals.Goals as goal

pub loop-r-preserved : goal.loop-r-preserved
loop-r-preserved c =
    ap (λ o. lesser o (least (turns_of (has_only_kin_rivals c.args.position.plan.now c.args.position.classes.now c.args.position.state.now c.args.class c.args.rivals) (drop (c.loop-r.r-index + 1) c.args.position.plan.now.requests))))
    (c.lesser-best.ensures ∙ ap (lesser c.loop-r.best) c.turn_if_only_kin_rivals.ensures)
    ∙ least-next (has_only_kin_rivals c.args.position.plan.now c.args.position.classes.now c.args.position.state.now c.args.class c.args.rivals) c.args.position.plan.now.requests c.loop-r.r-index c.r-item.result c.loop-r.best
    (omega (arith, c.loop-r-test.true, ap length c.as_slice-r-items.ensures))
    (c.r-item.is ∙ ap (λ l. get_or l c.loop-r.r-index c.r-item.result) c.as_slice-r-items.ensures)
    ∙ c.loop-r.invariant

pub returns : goal.returns
returns c =
    sym (least-end (has_only_kin_rivals c.args.position.plan.now c.args.position.classes.now c.args.position.state.now c.args.class c.args.rivals) c.args.position.plan.now.requests c.loop-r.r-index c.loop-r.best
    (omega (arith, c.loop-r-test.false, ap length c.as_slice-r-items.ensures)))
    ∙ c.loop-r.invariant
