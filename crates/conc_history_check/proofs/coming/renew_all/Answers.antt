use Rattle.std.proofs.Common.{◌≡◌, ◌<◌, length, not, Option, Some, inl, inr, refl, sym, ◌∙◌, subst, ap, arith}
use Rattle.std.specs.Prelude.{slice_get}
use Rattle.std.specs.Bool.{then_some}
use Rattle.std.proofs.lemmas.Bool.{cases_eq}
use Rattle.std.proofs.lemmas.List.{length-set}
use Rattle.std.proofs.lemmas.Option.{slice_get_read, slice_get_within}
use Rattle.conc_types.specs.declared.plan.Req.{Req}
use Rattle.conc_base_law.specs.State.{has_come}
use Rattle.conc_event_queue.proofs.Maps.{place_of_request, request_at_place}
use Rattle.conc_history_check.specs.Coming.{start_key}
use Rattle.conc_history_check.specs.Marks.{IsMarked, slot_of}
use Rattle.conc_history_check.proofs.Slots.{has-slot, slot-set, slot-set_other}
use Rattle.conc_history_check.proofs.coming.renew_all.Goals as goal

pub renew-requires-clause-known : goal.renew-requires-clause-known
renew-requires-clause-known c =
    let within : c.loop-i.i < length c.args.plan.now.requests = omega (arith, c.loop-i-test.true, c.len-i-end.ensures) in
    let here : slice_get c.args.plan.now.requests c.loop-i.i ≡ Some c.index-as_slice-i.result =
    slice_get_read c.args.plan.now.requests _ c.loop-i.i _ refl within (rw c.as_slice.ensures at c.index-as_slice-i.is) in
    (request_at_place c.args.plan.now c.loop-i.i _ here).1

pub loop-i-init : goal.loop-i-init
loop-i-init c = (c.requires.room, c.requires.size, λ k q at less. absurd (omega (arith, less)), λ k q at less. absurd (omega (arith, less)))

pub loop-i-preserved : goal.loop-i-preserved
loop-i-preserved c =
    let plan = c.args.plan.now in
    let r = c.index-as_slice-i.result in
    let within : c.loop-i.i < length plan.requests = omega (arith, c.loop-i-test.true, c.len-i-end.ensures) in
    let here : slice_get plan.requests c.loop-i.i ≡ Some r =
    slice_get_read plan.requests _ c.loop-i.i _ refl within (rw c.as_slice.ensures at c.index-as_slice-i.is) in
    let known = (request_at_place plan c.loop-i.i r here).1 in
    let there = has-slot plan c.loop-i.coming r c.loop-i.invariant.1 known in (
      c.renew.ensures.room,
      ap length c.renew.ensures.put ∙ length-set c.loop-i.coming _ _ ∙ c.loop-i.invariant.1,
      λ k q at less. elim (cases_eq k c.loop-i.i) [
        | inl same ↦
            let both : ◌≡◌ {A = Option Req} (Some r) (Some q) = sym here ∙ ap (slice_get plan.requests) (sym same) ∙ at in
            let one : r ≡ q = cc in
            subst (λ z. IsMarked plan c.args.prepared.now.classes c.args.state.now z c.renew.new.marks) one c.renew.ensures.own
        | inr other ↦ c.renew.ensures.kept q (request_at_place plan k q at).1 (c.loop-i.invariant.2 k q at (omega (arith, less, other)))
      ],
      λ k q at less. elim (cases_eq k c.loop-i.i) [
        | inl same ↦
            let both : ◌≡◌ {A = Option Req} (Some r) (Some q) = sym here ∙ ap (slice_get plan.requests) (sym same) ∙ at in
            let one : r ≡ q = cc in
            subst (λ z. slot_of c.renew.new.coming z ≡ Some (then_some (not (has_come c.args.state.now.time z.start)) (start_key z))) one
            (slot-set c.loop-i.coming c.renew.new.coming r _ there c.renew.ensures.put)
        | inr other ↦
            slot-set_other c.loop-i.coming c.renew.new.coming r q _ there.0 (has-slot plan c.loop-i.coming q c.loop-i.invariant.1 (request_at_place plan k q at).1).0
            (λ e. other (omega (arith, e, (request_at_place plan k q at).0, (request_at_place plan c.loop-i.i r here).0))) c.renew.ensures.put
            ∙ c.loop-i.invariant.3 k q at (omega (arith, less, other))
      ],
    )

pub returns-clause-marks : goal.returns-clause-marks
returns-clause-marks c = record {
  room = c.loop-i.invariant.0;
  all = λ q has.
      let p = place_of_request c.args.plan.now q has in
      let within : p.0 < length c.args.plan.now.requests = slice_get_within c.args.plan.now.requests p.0 q p.1 in
      c.loop-i.invariant.2 p.0 q p.1 (omega (arith, within, c.len-i-end.ensures, c.loop-i-test.false));
}

pub returns-clause-coming : goal.returns-clause-coming
returns-clause-coming c = record {
  size = c.loop-i.invariant.1;
  all = λ q has.
      let p = place_of_request c.args.plan.now q has in
      let within : p.0 < length c.args.plan.now.requests = slice_get_within c.args.plan.now.requests p.0 q p.1 in
      c.loop-i.invariant.3 p.0 q p.1 (omega (arith, within, c.len-i-end.ensures, c.loop-i-test.false));
}
