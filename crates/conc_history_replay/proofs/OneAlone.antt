-- An event that changes the facts of one request alone.
use Rattle.std.proofs.Common.{◌≡◌, ℕ, suc, ◌+◌, ◌<◌, List, length, take, None, Some, inl, inr, refl, sym, ◌∙◌, ap, subst, arith}
use Rattle.std.specs.Prelude.{slice_get, slice_set}
use Rattle.std.proofs.lemmas.Bool.{cases_lt, eq-eqb}
use Rattle.std.proofs.lemmas.Option.{slice_get_past}
use Rattle.conc_types.specs.declared.event.Event.{Event}
use Rattle.conc_types.specs.declared.event.Event.TheVariants as event
use Rattle.conc_types.specs.declared.event.RequestId.{RequestId}
use Rattle.conc_types.specs.declared.facts.Facts.{Facts}
use Rattle.conc_types.specs.declared.plan.Plan.{Plan}
use Rattle.conc_types.specs.declared.plan.Req.{Req}
use Rattle.conc_types.specs.Plans.{request}
use Rattle.conc_base_law.proofs.Numbering.{found, numbered-at}
use Rattle.conc_base_law.proofs.Positions.{slice_get-some}
use Rattle.conc_base_law.specs.State.{no_facts}
use Rattle.conc_event_effects.specs.Advance.{all_after, named_by, named_facts, one_by}
use Rattle.conc_event_effects.specs.Step.{facts_after}
use Rattle.conc_event_effects.proofs.Passes.{all_after-more}
use Rattle.conc_event_reach.specs.Reach.{is_about, is_request, IsAround}
use Rattle.conc_event_reach.specs.Spans.{LeavesOthers}
use Rattle.conc_event_reach.specs.declared.span.Span.{Span}
use Rattle.conc_event_reach.proofs.Around.{around_past, around_request, around_zero}
use Rattle.conc_event_reach.proofs.Passes.{all_after-before, all_after-from}
use Rattle.conc_event_reach.proofs.Unchanged.{leaves_others}
use Rattle.conc_history_replay.specs.Changes.{alone_after, named_alone, named_one}
use Rattle.conc_history_replay.proofs.ByKind.{alone-own}

-- a let, a start and an end name one
pub one-of-alone : (e : Event) (id : RequestId) → named_alone e ≡ Some id → named_one e ≡ Some id
one-of-alone (event.LetOut q) id h = h
one-of-alone (event.Started q p) id h = h
one-of-alone (event.Ended q o x) id h = h
one-of-alone _ id h = cc

-- and none that is cancelled or closed
pub named-none : (plan : Plan) (e : Event) (id : RequestId) (facts : List Facts) → named_one e ≡ Some id
    → named_facts facts (named_by plan e) ≡ no_facts
unfolding named_facts
named-none plan (event.OpenSet q) id facts h = refl
named-none plan (event.Stage q k) id facts h = refl
named-none plan (event.LetOut q) id facts h = refl
named-none plan (event.Started q p) id facts h = refl
named-none plan (event.Ended q o x) id facts h = refl
named-none plan _ id facts h = cc

-- it is about that request
around-alone : (plan : Plan) (e : Event) (id : RequestId) (span : Span) → named_one e ≡ Some id → IsAround plan (is_request id) span
    → IsAround plan (is_about plan e) span
unfolding is_about
around-alone plan (event.OpenSet q) id span h around = let is : q ≡ id = cc in rw is around
around-alone plan (event.Stage q k) id span h around = let is : q ≡ id = cc in rw is around
around-alone plan (event.LetOut q) id span h around = let is : q ≡ id = cc in rw is around
around-alone plan (event.Started q p) id span h around = let is : q ≡ id = cc in rw is around
around-alone plan (event.Ended q o x) id span h around = let is : q ≡ id = cc in rw is around
around-alone plan _ id span h around = cc

leaves-alone : (plan : Plan) (e : Event) (id : RequestId) (span : Span) → named_one e ≡ Some id → IsAround plan (is_request id) span
    → LeavesOthers plan e span
leaves-alone plan e id span h around = leaves_others plan e e span refl (around-alone plan e id span h around)

-- where there is no such request nothing changes
pub alone-none : (plan : Plan) (named : Facts) (e : Event) (id : RequestId) (facts : List Facts) → named_one e ≡ Some id
    → IsAround plan (is_request id) (record { from = 0; to = 0 }) → facts ≡ all_after plan named e plan.requests facts
alone-none plan named e id facts h around =
    let leaves : LeavesOthers plan e (record { from = 0; to = 0 }) = leaves-alone plan e id (record { from = 0; to = 0 }) h around in
    sym (all_after-before plan named e (record { from = 0; to = 0 }) facts leaves)
    ∙ all_after-from plan named e (record { from = 0; to = 0 }) facts 0 leaves (omega arith)

pub alone-zero : (plan : Plan) (named : Facts) (e : Event) (id : RequestId) (facts : List Facts) → named_one e ≡ Some id
    → id.number ≡ 0 → facts ≡ all_after plan named e plan.requests facts
alone-zero plan named e id facts h is = alone-none plan named e id facts h (around_zero plan id (record { from = 0; to = 0 }) is refl)

pub alone-past : (plan : Plan) (named : Facts) (e : Event) (id : RequestId) (facts : List Facts) → named_one e ≡ Some id
    → length plan.requests < id.number → facts ≡ all_after plan named e plan.requests facts
alone-past plan named e id facts h past = alone-none plan named e id facts h (around_past plan id (record { from = 0; to = 0 }) past refl)

-- else its facts change, where they are there
module _ (plan : Plan) (named : Facts) (e : Event) (id : RequestId) (i : ℕ) (facts : List Facts) where
  around : id.number ≡ i + 1 → i < length plan.requests → IsAround plan (is_request id) (record { from = i; to = i + 1 })
  around is within = around_request plan id (record { from = i; to = i + 1 }) is is (omega (arith, is, within))

  -- a pass over that request alone is a pass over all
  alone-pass : named_one e ≡ Some id → id.number ≡ i + 1 → i < length plan.requests
      → one_by plan named e facts i (slice_get plan.requests i) (slice_get facts i) ≡ all_after plan named e plan.requests facts
  alone-pass h is within =
      let leaves : LeavesOthers plan e (record { from = i; to = i + 1 }) = leaves-alone plan e id (record { from = i; to = i + 1 }) h (around is within) in
      let before : all_after plan named e (take i plan.requests) facts ≡ facts =
      all_after-before plan named e (record { from = i; to = i + 1 }) facts leaves in
      let more : one_by plan named e facts i (slice_get plan.requests i) (slice_get facts i) ≡ all_after plan named e (take (suc i) plan.requests) facts =
      subst (λ (l : List Facts). one_by plan named e l i (slice_get plan.requests i) (slice_get l i) ≡ all_after plan named e (take (suc i) plan.requests) facts)
      before (all_after-more plan named e i plan.requests facts) in
      more ∙ all_after-from plan named e (record { from = i; to = i + 1 }) facts (suc i) leaves (omega arith)

  pub alone-there : (own : Facts) → named_alone e ≡ Some id → id.number ≡ i + 1 → i < length plan.requests → slice_get facts i ≡ Some own
      → slice_set facts i (alone_after e own) ≡ all_after plan named e plan.requests facts
  unfolding request
  alone-there own h is within here = by (slice_get-some plan.requests i within) where
    by : (r : Req) × (slice_get plan.requests i ≡ Some r) → slice_set facts i (alone_after e own) ≡ all_after plan named e plan.requests facts
    by (r, at) =
        let number : r.number.number ≡ 1 + i = (found plan (record { number = 1 + i }) r (numbered-at plan.requests (1 + i) i refl ∙ at)).0 in
        let after : facts_after plan named e r own ≡ alone_after e own =
        alone-own plan named e id r own h (eq-eqb id.number r.number.number (omega (arith, is, number))) in
        ap (slice_set facts i) (sym after) ∙ sym (ap (λ o. one_by plan named e facts i o (Some own)) at)
        ∙ (sym (ap (one_by plan named e facts i (slice_get plan.requests i)) here) ∙ alone-pass (one-of-alone e id h) is within)

  pub alone-missing : named_alone e ≡ Some id → id.number ≡ i + 1 → i < length plan.requests → slice_get facts i ≡ None
      → facts ≡ all_after plan named e plan.requests facts
  alone-missing h is within none = by (slice_get-some plan.requests i within) where
    by : (r : Req) × (slice_get plan.requests i ≡ Some r) → facts ≡ all_after plan named e plan.requests facts
    by (r, at) =
        sym (ap (λ o. one_by plan named e facts i o None) at)
        ∙ (sym (ap (one_by plan named e facts i (slice_get plan.requests i)) none) ∙ alone-pass (one-of-alone e id h) is within)

  -- so where it may not be there
  pub one-pass : named_one e ≡ Some id → id.number ≡ i + 1
      → one_by plan named e facts i (slice_get plan.requests i) (slice_get facts i) ≡ all_after plan named e plan.requests facts
  one-pass h is = elim (cases_lt i (length plan.requests)) [
    | inl within ↦ alone-pass h is within
    | inr past ↦
        let none : slice_get plan.requests i ≡ None = slice_get_past plan.requests i past in
        ap (λ o. one_by plan named e facts i o (slice_get facts i)) none ∙ alone-past plan named e id facts h (omega (arith, is, past))
  ]
