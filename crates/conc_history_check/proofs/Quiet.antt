-- Requests at which nothing is due, and what an event leaves of them.
use Rattle.std.proofs.Common.{◌≡◌, ◌⊎◌, inl, inr, ℕ, zero, suc, ◌<◌, ◌≤◌, Bool, true, false, not, ◌&&◌, ◌||◌, List, [], ◌∷◌, length, Option, None, Some, refl, ◌∙◌, ap, arith}
use Rattle.std.specs.Prelude.{IsTrue, is_some, slice_get}
use Rattle.std.proofs.lemmas.Bool.{both_ways, cases_Bool, cases_lt}
use Rattle.std.proofs.lemmas.List.{length-map}
use Rattle.conc_types.specs.declared.event.Event.{Event}
use Rattle.conc_types.specs.declared.facts.Facts.{Facts}
use Rattle.conc_types.specs.declared.facts.State.{State}
use Rattle.conc_types.specs.declared.plan.Plan.{Plan}
use Rattle.conc_types.specs.declared.plan.Req.{Req}
use Rattle.conc_event_effects.specs.Advance.{IsAfter, all_after, named_by, named_facts}
use Rattle.conc_event_effects.specs.Step.{facts_after}
use Rattle.conc_event_reach.specs.Reach.{IsCover}
use Rattle.conc_event_reach.specs.Spans.{is_within}
use Rattle.conc_event_reach.specs.Started.{LeavesFacts}
use Rattle.conc_event_reach.specs.declared.span.Span.{Span}
use Rattle.conc_event_reach.proofs.Within.{bounds_within, within-bounds}
use Rattle.conc_base_law.specs.Facts.{facts_of}
use Rattle.conc_base_law.specs.State.{state}
use Rattle.conc_history_check.specs.Active.{AreQuiet, IsActive, IsOutside, quiet_at}
use Rattle.conc_history_check.specs.At.{waits_at}

-- ---- outside of a span

outside-not : (i : ℕ) (span : Span) → IsOutside i span → is_within i span ≡ false
outside-not i span outside = elim (cases_Bool (is_within i span)) [
  | inl on ↦ let bounds = within-bounds i span on in absurd (by outside bounds)
  | inr off ↦ off
] where
  by : (i < span.from) ⊎ (span.to ≤ i) → (span.from ≤ i) × (i < span.to) → ⊥
  by (inl before) bounds = omega (arith, before, bounds.0)
  by (inr behind) bounds = omega (arith, behind, bounds.1)

not-outside : (i : ℕ) (span : Span) → is_within i span ≡ false → IsOutside i span
not-outside i span off = elim (cases_lt i span.from) [
  | inl before ↦ inl before
  | inr from ↦ elim (cases_lt i span.to) [
    | inl to ↦ absurd (both_ways _ off (bounds_within i span from to))
    | inr behind ↦ inr behind
  ]
]

-- what is outside of a span that holds what another one holds is outside of that one
outside-part : (i : ℕ) (part span : Span) → (IsTrue (is_within i part) → IsTrue (is_within i span)) → is_within i span ≡ false → is_within i part ≡ false
outside-part i part span holds off = elim (cases_Bool (is_within i part)) [
  | inl on ↦ absurd (both_ways _ off (holds on))
  | inr none ↦ none
]

-- the span of all requests is right
beyond : {T : Type 0} (xs : List T) (i : ℕ) → length xs ≤ i → slice_get xs i ≡ None
beyond [] i past = refl
beyond (x ∷ xs) zero past = absurd (omega (arith, past))
beyond (x ∷ xs) (suc i) past = beyond xs i (omega (arith, past))

pub active-whole : (plan : Plan) (past : List Event) (s : State) (span : Span) → s ≡ state plan past → span.from ≡ 0 → length plan.requests ≤ span.to → span.to ≤ length plan.requests → IsActive plan s span
unfolding state
active-whole plan past s span is from least most =
    let long : length s.facts ≡ length plan.requests = ap (λ (t : State). length t.facts) is ∙ length-map plan.requests (facts_of plan past) in record {
      quiet = λ i outside. ap quiet_at (beyond s.facts i (by i long outside));
      ordered = omega (arith, from);
      inside = most;
    }
  where
    by : (i : ℕ) → length s.facts ≡ length plan.requests → (i < span.from) ⊎ (span.to ≤ i) → length s.facts ≤ i
    by i long (inl before) = absurd (omega (arith, before, from))
    by i long (inr behind) = omega (arith, behind, long, least)

-- ---- after an event

all-same : (plan : Plan) (named : Facts) (e : Event) (rs : List Req) (facts : List Facts) (i : ℕ)
    → ((r : Req) (own : Facts) → slice_get rs i ≡ Some r → slice_get facts i ≡ Some own → facts_after plan named e r own ≡ own)
    → slice_get (all_after plan named e rs facts) i ≡ slice_get facts i
unfolding all_after
all-same plan named e [] facts i same = refl
all-same plan named e (r ∷ rs) [] i same = refl
all-same plan named e (r ∷ rs) (own ∷ facts) zero same = ap (λ (o : Facts). Some o) (same r own refl refl)
all-same plan named e (r ∷ rs) (own ∷ facts) (suc i) same = all-same plan named e rs facts i same

-- the facts of a request that the event does not reach stay
pub facts-outside : (plan : Plan) (e : Event) (old new : State) (reach : Span) (i : ℕ) → LeavesFacts plan e old.facts reach → IsAfter plan old new e → is_within i reach ≡ false
    → slice_get new.facts i ≡ slice_get old.facts i
facts-outside plan e old new reach i leaves after off =
    let named = named_facts old.facts (named_by plan e) in
    ap (λ (l : List Facts). slice_get l i) after.facts ∙ all-same plan named e plan.requests old.facts i (λ r own at found. leaves i r own at found off named)

-- outside of what it reaches the same requests are quiet
pub quiet-after : (plan : Plan) (e : Event) (old new : State) (active reach touched : Span) → AreQuiet old active → LeavesFacts plan e old.facts reach → IsCover active reach touched → IsAfter plan old new e → AreQuiet new touched
quiet-after plan e old new active reach touched quiet leaves cover after = λ i outside.
    let off = outside-not i touched outside in
    ap quiet_at (facts-outside plan e old new reach i leaves after (outside-part i reach touched (cover.second i) off)) ∙ quiet i (not-outside i active (outside-part i active touched (cover.first i) off))

-- ---- what a quiet request is not

not-waiting : (live running entered completed held : Bool) → (not live && (not running && (not entered || completed))) ≡ true → (entered && (not live && (not completed && not held))) ≡ false
not-waiting true running entered completed held is = cc
not-waiting false true entered completed held is = cc
not-waiting false false false completed held is = refl
not-waiting false false true false held is = cc
not-waiting false false true true held is = refl

pub quiet-waits : (o : Option Facts) → quiet_at o ≡ true → waits_at o ≡ false
quiet-waits None is = refl
quiet-waits (Some own) is = not-waiting (own.let_out || own.opened) (is_some own.place) own.entered (is_some own.outcome) own.held is
