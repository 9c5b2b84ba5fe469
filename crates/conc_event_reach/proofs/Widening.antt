-- Spans that are widened by all requests of a plan are the plan's.
use Rattle.std.proofs.Common.{◌≡◌, ℕ, zero, suc, ◌+◌, ◌-◌, ◌<◌, ◌≤◌, List, length, get_or, set, Option, None, Some, refl, sym, ◌∙◌, ap, arith, inl, inr, get_or-set_same, get_or-set_other}
use Rattle.std.specs.Prelude.{IsTrue, slice_get, unwrap_or}
use Rattle.std.proofs.lemmas.Bool.{cases_eq}
use Rattle.std.proofs.lemmas.Option.{get_or_from_slice_get, slice_get_within, unwrap_or-slice_get}
use Rattle.conc_types.specs.declared.event.RequestId.{RequestId}
use Rattle.conc_types.specs.declared.plan.Plan.{Plan}
use Rattle.conc_types.specs.declared.plan.Req.{Req}
use Rattle.conc_types.specs.Words.{numbered}
use Rattle.conc_base_law.proofs.Numbering.{numbered-at}
use Rattle.conc_base_law.proofs.Numbers.{numbered-get}
use Rattle.conc_event_reach.specs.Reach.{IsCover}
use Rattle.conc_event_reach.specs.Spans.{AreSpans, is_within, span_of_command, span_of_members}
use Rattle.conc_event_reach.specs.Widened.{IsWidened, IsWidenedBy, span_at}
use Rattle.conc_event_reach.specs.declared.span.Span.{Span}
use Rattle.conc_event_reach.proofs.Within.{bounds_within}

-- ---- one number

-- the span of a number stands at the place before it
span_at-place : (spans : List Span) (place : ℕ) (whole : Span) → span_at spans (suc place) whole ≡ get_or spans place whole
span_at-place spans place whole =
    ap (λ o. unwrap_or o whole) (numbered-at spans (suc place) place (omega arith)) ∙ unwrap_or-slice_get spans place whole

-- a span that is put at a place is that of the number after it
at-own : (old : List Span) (place : ℕ) (span wide whole : Span) (n : ℕ) → slice_get old place ≡ Some span → n ≡ suc place
    → (span_at old n whole ≡ span) × (span_at (set old place wide) n whole ≡ wide)
at-own old place span wide whole n is same =
    let within : place < length old = slice_get_within old place span is in
    rw same (
      span_at-place old place whole ∙ get_or_from_slice_get old place span whole is,
      span_at-place (set old place wide) place whole ∙ get_or-set_same old place wide whole within,
    )

-- and the others stay
at-other : (old : List Span) (place : ℕ) (wide whole : Span) (n : ℕ) → (n ≡ suc place → ⊥)
    → span_at (set old place wide) n whole ≡ span_at old n whole
at-other old place wide whole zero other = refl
at-other old place wide whole (suc m) other =
    span_at-place (set old place wide) m whole
    ∙ (get_or-set_other old place m wide whole (λ same. other (omega arith)) ∙ sym (span_at-place old m whole))

-- the index is taken into the span of a number
widened-set : (old : List Span) (number place index : ℕ) (span wide : Span) → number ≡ place + 1 → slice_get old place ≡ Some span
    → IsCover span (record { from = index; to = index + 1 }) wide
    → IsWidened old (set old place wide) number index
widened-set old number place index span wide next is cover = record {
  kept = λ whole n i h. elim (cases_eq n (suc place)) [
    | inl same ↦
        let own : (span_at old n whole ≡ span) × (span_at (set old place wide) n whole ≡ wide) = at-own old place span wide whole n is same in
        rw own.1 (cover.first i (rw own.0 at h))
    | inr other ↦ rw (at-other old place wide whole n other) h
  ];
  taken = λ whole h.
      let own : (span_at old number whole ≡ span) × (span_at (set old place wide) number whole ≡ wide) =
      at-own old place span wide whole number is (omega arith) in
      rw own.1 (cover.second index (bounds_within index (record { from = index; to = index + 1 }) (omega arith) (omega arith)));
  inside = λ whole n size h below. elim (cases_eq n (suc place)) [
    | inl same ↦
        let own : (span_at old n whole ≡ span) × (span_at (set old place wide) n whole ≡ wide) = at-own old place span wide whole n is same in
        let before : span.to ≤ size = rw own.0 at h in
        rw own.1 (omega (arith, cover.inside))
    | inr other ↦ rw (at-other old place wide whole n other) h
  ];
}

pub widened_some : (old : List Span) (number index : ℕ) (span wide : Span) → numbered old number ≡ Some span
    → IsCover span (record { from = index; to = index + 1 }) wide
    → IsWidened old (set old (number - 1) wide) number index
widened_some old number index span wide is cover =
    let p : (k : ℕ) × (number ≡ 1 + k) × (slice_get old k ≡ Some span) = numbered-get old number span is in
    let place : number - 1 ≡ p.0 = omega (arith, p.1) in
    rw place (widened-set old number p.0 index span wide (omega (arith, p.1)) p.2 cover)

-- no span has the number
pub widened_none : (old : List Span) (number index : ℕ) → numbered old number ≡ None → IsWidened old old number index
widened_none old number index none = record {
  kept = λ whole n i h. h;
  taken = λ whole h. rw none h;
  inside = λ whole n size h below. h;
}

-- ---- a number that may be missing

by-kept : (old new : List Span) (p : Option RequestId) (index : ℕ) → IsWidenedBy old new p index
    → (whole : Span) (n i : ℕ) → IsTrue (is_within i (span_at old n whole)) → IsTrue (is_within i (span_at new n whole))
by-kept old new None index is whole n i h = rw is h
by-kept old new (Some id) index is whole n i h = is.kept whole n i h

by-inside : (old new : List Span) (p : Option RequestId) (index : ℕ) → IsWidenedBy old new p index
    → (whole : Span) (n size : ℕ) → (span_at old n whole).to ≤ size → index < size → (span_at new n whole).to ≤ size
by-inside old new None index is whole n size h below = rw is h
by-inside old new (Some id) index is whole n size h below = is.inside whole n size h below

by-taken : (old new : List Span) (p : Option RequestId) (index : ℕ) → IsWidenedBy old new p index
    → (whole : Span) (id : RequestId) → p ≡ Some id → IsTrue (is_within index whole) → IsTrue (is_within index (span_at new id.number whole))
by-taken old new None index is whole id same h = cc
by-taken old new (Some q) index is whole id same h = let e : q ≡ id = cc in rw (← e) (is.taken whole h)

-- ---- all requests

abbrev whole_of : Plan → Span
whole_of plan = record { from = 0; to = length plan.requests }

-- the spans are those of the first requests, so many as counted
pub record AreUpTo (plan : Plan) (commands members : List Span) (count : ℕ) : Type 0 where
  pub commands_inside : (n : ℕ) → (span_at commands n (whole_of plan)).to ≤ length plan.requests
  pub members_inside : (n : ℕ) → (span_at members n (whole_of plan)).to ≤ length plan.requests
  pub entered_in : (i : ℕ) (r : Req) → i < count → slice_get plan.requests i ≡ Some r → IsTrue (is_within i (span_at commands r.command (whole_of plan)))
  pub member_in : (i : ℕ) (r : Req) (id : RequestId) → i < count → slice_get plan.requests i ≡ Some r → r.parent ≡ Some id → IsTrue (is_within i (span_at members id.number (whole_of plan)))

-- the index of a request is one of all
in-whole : (plan : Plan) (i : ℕ) (r : Req) → slice_get plan.requests i ≡ Some r → IsTrue (is_within i (whole_of plan))
in-whole plan i r at = bounds_within i (whole_of plan) (omega arith) (slice_get_within plan.requests i r at)

pub up_to_more : (plan : Plan) (commands more_commands members more_members : List Span) (count : ℕ) (r : Req)
    → AreUpTo plan commands members count → slice_get plan.requests count ≡ Some r
    → IsWidened commands more_commands r.command count → IsWidenedBy members more_members r.parent count
    → AreUpTo plan more_commands more_members (count + 1)
up_to_more plan commands more_commands members more_members count r are at own parent =
    let below : count < length plan.requests = slice_get_within plan.requests count r at in
    let here : IsTrue (is_within count (whole_of plan)) = in-whole plan count r at in
    record {
      commands_inside = λ n. own.inside (whole_of plan) n (length plan.requests) (are.commands_inside n) below;
      members_inside = λ n. by-inside members more_members r.parent count parent (whole_of plan) n (length plan.requests) (are.members_inside n) below;
      entered_in = λ i q less found. elim (cases_eq i count) [
        | inl same ↦
            let is : q ≡ r = cc in
            rw (same, is) (own.taken (whole_of plan) here)
        | inr other ↦ own.kept (whole_of plan) q.command i (are.entered_in i q (omega arith) found)
      ];
      member_in = λ i q id less found belongs. elim (cases_eq i count) [
        | inl same ↦
            let is : q ≡ r = cc in
            rw same (by-taken members more_members r.parent count parent (whole_of plan) id (rw (← is) belongs) here)
        | inr other ↦ by-kept members more_members r.parent count parent (whole_of plan) id.number i (are.member_in i q id (omega arith) found belongs)
      ];
    }

-- so those of all requests are the plan's
pub up_to_all : (plan : Plan) (commands members : List Span) (count : ℕ) → AreUpTo plan commands members count → length plan.requests ≤ count
    → AreSpans plan (record { commands = commands; members = members; whole = whole_of plan })
unfolding span_of_command span_of_members
up_to_all plan commands members count are end = record {
  whole = refl;
  commands_inside = λ n. are.commands_inside n;
  members_inside = λ set. are.members_inside set.number;
  entered = λ i r at. are.entered_in i r (omega (arith, slice_get_within plan.requests i r at)) at;
  members = λ i r set at parent. are.member_in i r set (omega (arith, slice_get_within plan.requests i r at)) at parent;
}
