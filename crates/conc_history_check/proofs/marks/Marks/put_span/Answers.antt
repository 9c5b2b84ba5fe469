use Rattle.std.proofs.Common.{◌≡◌, ◌<◌, length, Option, Some, inl, inr, refl, sym, ◌∙◌, subst, ap, arith}
use Rattle.std.specs.Prelude.{slice_get}
use Rattle.std.proofs.lemmas.Bool.{cases_eq}
use Rattle.std.proofs.lemmas.Option.{slice_get_read}
use Rattle.conc_types.specs.declared.plan.Req.{Req}
use Rattle.conc_event_queue.proofs.Maps.{request_at_place}
use Rattle.conc_event_reach.proofs.Within.{within-bounds}
use Rattle.conc_history_check.specs.Marks.{IsMarked}
use Rattle.conc_history_check.proofs.marks.Marks.put_span.Goals as goal

pub put-requires-clause-known : goal.put-requires-clause-known
put-requires-clause-known c =
    let within : c.loop-i.i < length c.args.plan.now.requests = omega (arith, c.loop-i-test.true, c.requires.inside) in
    let here : slice_get c.args.plan.now.requests c.loop-i.i ≡ Some c.index-as_slice-i.result =
    slice_get_read c.args.plan.now.requests _ c.loop-i.i _ refl within (rw c.as_slice.ensures at c.index-as_slice-i.is) in
    (request_at_place c.args.plan.now c.loop-i.i _ here).1

pub loop-i-init : goal.loop-i-init
loop-i-init c = (c.requires.room, λ q has is. is, λ k q at least less. absurd (omega (arith, least, less)))

pub loop-i-preserved : goal.loop-i-preserved
loop-i-preserved c =
    let plan = c.args.plan.now in
    let within : c.loop-i.i < length plan.requests = omega (arith, c.loop-i-test.true, c.requires.inside) in
    let here : slice_get plan.requests c.loop-i.i ≡ Some c.index-as_slice-i.result =
    slice_get_read plan.requests _ c.loop-i.i _ refl within (rw c.as_slice.ensures at c.index-as_slice-i.is) in (
      c.put.ensures.room,
      λ q has is. c.put.ensures.kept q has (c.loop-i.invariant.1 q has is),
      λ k q at least less. elim (cases_eq k c.loop-i.i) [
        | inl same ↦
            let both : ◌≡◌ {A = Option Req} (Some c.index-as_slice-i.result) (Some q) = sym here ∙ ap (slice_get plan.requests) (sym same) ∙ at in
            let one : c.index-as_slice-i.result ≡ q = cc in
            subst (λ r. IsMarked plan c.args.prepared.now.classes c.args.state.now r c.put.new.self) one c.put.ensures.own
        | inr other ↦ c.put.ensures.kept q (request_at_place plan k q at).1 (c.loop-i.invariant.2 k q at least (omega (arith, less, other)))
      ],
    )

pub returns-clause-room : goal.returns-clause-room
returns-clause-room c = c.loop-i.invariant.0

pub returns-clause-kept : goal.returns-clause-kept
returns-clause-kept c = c.loop-i.invariant.1

pub returns-clause-within : goal.returns-clause-within
returns-clause-within c = λ k q at within.
    let bounds = within-bounds k c.args.span within in
    c.loop-i.invariant.2 k q at bounds.0 (omega (arith, bounds.1, c.loop-i-test.false))
