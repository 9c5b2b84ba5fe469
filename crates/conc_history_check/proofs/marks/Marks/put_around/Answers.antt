use Rattle.std.proofs.Common.{◌≡◌, ◌<◌, length, Option, Some, inl, inr, refl, sym, ◌∙◌, subst, ap, arith}
use Rattle.std.specs.Prelude.{slice_get}
use Rattle.std.proofs.lemmas.Bool.{cases_eq}
use Rattle.std.proofs.lemmas.Option.{slice_get_read}
use Rattle.conc_types.specs.declared.plan.Req.{Req}
use Rattle.conc_event_queue.proofs.Maps.{request_at_place}
use Rattle.conc_event_reach.proofs.Within.{within-bounds}
use Rattle.conc_history_check.specs.Marks.{AreMarkedNear}
use Rattle.conc_history_check.proofs.marks.Marks.put_around.Goals as goal

pub put_near-requires-clause-known : goal.put_near-requires-clause-known
put_near-requires-clause-known c =
    let within : c.loop-i.i < length c.args.plan.now.requests = omega (arith, c.loop-i-test.true, c.requires.inside) in
    let here : slice_get c.args.plan.now.requests c.loop-i.i ≡ Some c.index-as_slice-i.result =
    slice_get_read c.args.plan.now.requests _ c.loop-i.i _ refl within (rw c.as_slice.ensures at c.index-as_slice-i.is) in
    (request_at_place c.args.plan.now c.loop-i.i _ here).1

pub loop-i-init : goal.loop-i-init
loop-i-init c = (c.requires.room, λ q has is. is, λ k r at least less. absurd (omega (arith, least, less)))

pub loop-i-preserved : goal.loop-i-preserved
loop-i-preserved c =
    let plan = c.args.plan.now in
    let within : c.loop-i.i < length plan.requests = omega (arith, c.loop-i-test.true, c.requires.inside) in
    let here : slice_get plan.requests c.loop-i.i ≡ Some c.index-as_slice-i.result =
    slice_get_read plan.requests _ c.loop-i.i _ refl within (rw c.as_slice.ensures at c.index-as_slice-i.is) in (
      c.put_near.ensures.room,
      λ q has is. c.put_near.ensures.kept q has (c.loop-i.invariant.1 q has is),
      λ k r at least less. elim (cases_eq k c.loop-i.i) [
        | inl same ↦
            let both : ◌≡◌ {A = Option Req} (Some c.index-as_slice-i.result) (Some r) = sym here ∙ ap (slice_get plan.requests) (sym same) ∙ at in
            let one : c.index-as_slice-i.result ≡ r = cc in
            subst (λ z. AreMarkedNear plan c.args.prepared.now.classes c.args.state.now z c.put_near.new.self) one c.put_near.ensures.near
        | inr other ↦ λ q has near. c.put_near.ensures.kept q has (c.loop-i.invariant.2 k r at least (omega (arith, less, other)) q has near)
      ],
    )

pub returns-clause-room : goal.returns-clause-room
returns-clause-room c = c.loop-i.invariant.0

pub returns-clause-kept : goal.returns-clause-kept
returns-clause-kept c = c.loop-i.invariant.1

pub returns-clause-around : goal.returns-clause-around
returns-clause-around c = λ k r at within.
    let bounds = within-bounds k c.args.span within in
    c.loop-i.invariant.2 k r at bounds.0 (omega (arith, bounds.1, c.loop-i-test.false))
