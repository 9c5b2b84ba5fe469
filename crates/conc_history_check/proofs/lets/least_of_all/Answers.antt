use Rattle.std.proofs.Common.{◌≡◌, ◌+◌, ◌<◌, length, drop, Some, None, inl, inr, refl, ap, sym, ◌∙◌, arith}
use Rattle.std.specs.Prelude.{slice_get}
use Rattle.std.proofs.lemmas.Option.{get_or_from_slice_get}
use Rattle.conc_types.specs.declared.plan.Req.{Req}
use Rattle.conc_base_law.specs.Next.{may_let}
use Rattle.conc_base_law.proofs.Positions.{slice_get-some}
use Rattle.conc_event_queue.specs.Least.{least, lesser}
use Rattle.conc_event_queue.specs.Turns.{turns_of}
use Rattle.conc_event_queue.proofs.LeastTurns.{least-end, least-next}
use Rattle.conc_history_check.proofs.Skips.{skips, skips-past}
use Rattle.conc_history_check.proofs.Turns.{turn-quiet}
use Rattle.conc_history_check.proofs.lets.least_of_all.Goals as goal

pub loop-i-init : goal.loop-i-init
loop-i-init c =
    let plan = c.args.position.plan.now in let s = c.args.position.state.now in let active = c.requires.kept.active in
    skips (λ i. lesser None (least (turns_of (may_let plan s) (drop i plan.requests))) ≡ least (turns_of (may_let plan s) plan.requests)) 0 c.args.position.active.from (omega arith)
    (λ i _ less same. turn-quiet plan s i None (omega (arith, less, active.ordered, active.inside)) (active.quiet i (inl less)) ∙ same)
    refl

pub loop-i-preserved : goal.loop-i-preserved
loop-i-preserved c =
    let within : c.loop-i.i < length c.args.position.plan.now.requests = omega (arith, c.loop-i-test.true, c.requires.kept.active.inside) in
    let w : (r : Req) × (slice_get c.args.position.plan.now.requests c.loop-i.i ≡ Some r) = slice_get-some c.args.position.plan.now.requests c.loop-i.i within in
    ap (λ o. lesser o (least (turns_of (may_let c.args.position.plan.now c.args.position.state.now) (drop (c.loop-i.i + 1) c.args.position.plan.now.requests)))) (c.better_at-best.ensures w.0 w.1)
    ∙ least-next (may_let c.args.position.plan.now c.args.position.state.now) c.args.position.plan.now.requests c.loop-i.i w.0 c.loop-i.best within
    (sym (get_or_from_slice_get c.args.position.plan.now.requests c.loop-i.i w.0 w.0 w.1))
    ∙ c.loop-i.invariant

pub returns : goal.returns
returns c =
    let plan = c.args.position.plan.now in let s = c.args.position.state.now in let active = c.requires.kept.active in
    let past = skips-past (λ i. lesser c.loop-i.best (least (turns_of (may_let plan s) (drop i plan.requests))) ≡ least (turns_of (may_let plan s) plan.requests)) c.loop-i.i (length plan.requests)
    (λ i least less same. turn-quiet plan s i c.loop-i.best less (active.quiet i (inr (omega (arith, least, c.loop-i-test.false)))) ∙ same)
    c.loop-i.invariant in
    sym (least-end (may_let plan s) plan.requests past.0 c.loop-i.best past.1) ∙ past.2
