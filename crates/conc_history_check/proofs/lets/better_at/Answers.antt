use Rattle.std.proofs.Common.{◌≡◌, Option, Some, refl, sym, ◌∙◌, ap}
use Rattle.std.specs.Prelude.{slice_get}
use Rattle.std.specs.Bool.{then_some}
use Rattle.std.proofs.lemmas.Option.{slice_get_read}
use Rattle.conc_types.specs.declared.plan.Req.{Req}
use Rattle.conc_base_law.specs.Next.{may_let}
use Rattle.conc_event_queue.specs.Least.{lesser}
use Rattle.conc_event_queue.specs.Turns.{turn}
use Rattle.conc_event_queue.proofs.Maps.{request_at_place}
use Rattle.conc_history_check.proofs.AtIndex.{waits-index}
use Rattle.conc_history_check.proofs.Turns.{better-not}
use Rattle.conc_history_check.proofs.lets.better_at.Goals as goal

pub returns-then-not-waits_at : goal.returns-then-not-waits_at
returns-then-not-waits_at c = λ r at.
    better-not c.args.best _ _ (waits-index c.args.position.plan.now c.args.position.state.now c.args.i r at (sym c.waits_at.ensures ∙ c.if-not-waits_at.true))

pub better-requires-clause-own : goal.better-requires-clause-own
better-requires-clause-own c =
    let here : slice_get c.args.position.plan.now.requests c.args.i ≡ Some c.index-as_slice-i.result =
    slice_get_read c.args.position.plan.now.requests _ c.args.i _ refl c.requires.within (rw c.as_slice.ensures at c.index-as_slice-i.is) in
    (request_at_place c.args.position.plan.now c.args.i _ here).1

pub returns : goal.returns
returns c = λ r at.
    let here : slice_get c.args.position.plan.now.requests c.args.i ≡ Some c.index-as_slice-i.result =
    slice_get_read c.args.position.plan.now.requests _ c.args.i _ refl c.requires.within (rw c.as_slice.ensures at c.index-as_slice-i.is) in
    let both : ◌≡◌ {A = Option Req} (Some c.index-as_slice-i.result) (Some r) = sym here ∙ at in
    let same : c.index-as_slice-i.result ≡ r = cc in
    c.better.ensures ∙ ap (λ (q : Req). lesser c.args.best (then_some (may_let c.args.position.plan.now c.args.position.state.now q) (turn q))) same
