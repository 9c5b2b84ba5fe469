-- Where the requests stand that were started in a life, before and after an event.
use Rattle.std.proofs.Common.{◌≡◌, ℕ, zero, suc, ◌≤◌, false, ◌⊎◌, inl, inr, List, [], ◌∷◌, length, Some, refl, sym, ◌∙◌, ap, arith}
use Rattle.std.specs.Prelude.{IsTrue, slice_get}
use Rattle.std.specs.Option.{option_map}
use Rattle.std.proofs.lemmas.Bool.{both_ways, cases_Bool, or_cases}
use Rattle.std.proofs.lemmas.Option.{slice_get-map}
use Rattle.conc_types.specs.declared.event.Event.{Event}
use Rattle.conc_types.specs.declared.event.Event.TheVariants as event
use Rattle.conc_types.specs.declared.event.PlaceId.{PlaceId}
use Rattle.conc_types.specs.declared.event.RequestId.{RequestId}
use Rattle.conc_types.specs.declared.facts.Facts.{Facts}
use Rattle.conc_types.specs.declared.facts.State.{State}
use Rattle.conc_types.specs.declared.plan.Plan.{Plan}
use Rattle.conc_types.specs.declared.plan.Req.{Req}
use Rattle.conc_base_law.specs.Before.{last_life}
use Rattle.conc_base_law.specs.Facts.{facts_of, was_started}
use Rattle.conc_base_law.specs.Kinds.{starts}
use Rattle.conc_base_law.specs.State.{state}
use Rattle.conc_event_effects.specs.Advance.{all_after}
use Rattle.conc_event_effects.specs.Step.{facts_after, started_after}
use Rattle.conc_event_reach.specs.Reach.{IsAround, IsCover, is_request}
use Rattle.conc_event_reach.specs.Spans.{is_within}
use Rattle.conc_event_reach.specs.Started.{AreStartedWithin, LeavesFacts}
use Rattle.conc_event_reach.specs.declared.span.Span.{Span}
use Rattle.conc_event_reach.proofs.Unchanged.{unchanged-resume}

-- ---- before the first event

fresh : (plan : Plan) (r : Req) → (facts_of plan [] r).started ≡ false
unfolding facts_of was_started last_life
fresh plan r = refl

-- none was started
pub none-started : (plan : Plan) (s : State) (span : Span) → s ≡ state plan [] → span.to ≡ 0 → AreStartedWithin plan s.facts span
unfolding state
none-started plan s span is end = record {
  all = λ i r own at found on.
      let made : Some own ≡ Some (facts_of plan [] r) =
      sym found ∙ ap (λ (t : State). slice_get t.facts i) is ∙ slice_get-map (facts_of plan []) plan.requests i ∙ ap (option_map (facts_of plan [])) at in
      let same : own ≡ facts_of plan [] r = cc in
      absurd (both_ways own.started (ap (λ (f : Facts). f.started) same ∙ fresh plan r) on);
  inside = omega (arith, end);
}

-- ---- what an event leaves

-- a resume leaves those as they are that were not started in the life that ends
pub resume-leaves : (plan : Plan) (e : Event) (facts : List Facts) (span : Span) → e ≡ event.Resume → AreStartedWithin plan facts span → LeavesFacts plan e facts span
resume-leaves plan e facts span is are = λ i r own at found out named. elim (cases_Bool own.started) [
  | inl on ↦ absurd (both_ways (is_within i span) out (are.all i r own at found on))
  | inr off ↦ rw is (unchanged-resume plan named r own off)
]

-- ---- after an event

-- the facts of a request are made of its own before the event
after-own : (plan : Plan) (named : Facts) (e : Event) (rs : List Req) (facts : List Facts) (i : ℕ) (r : Req) (new : Facts)
    → slice_get rs i ≡ Some r → slice_get (all_after plan named e rs facts) i ≡ Some new
    → (own : Facts) × (slice_get facts i ≡ Some own) × (facts_after plan named e r own ≡ new)
unfolding all_after
after-own plan named e [] facts i r new at found = absurd (cc at)
after-own plan named e (q ∷ rs) [] i r new at found = absurd (cc found)
after-own plan named e (q ∷ rs) (own ∷ facts) zero r new at found =
    let same : q ≡ r = cc in
    let made : facts_after plan named e q own ≡ new = cc in
    (own, refl, ap (λ x. facts_after plan named e x own) (sym same) ∙ made)
after-own plan named e (q ∷ rs) (own ∷ facts) (suc i) r new at found = after-own plan named e rs facts i r new at found

-- one that was started in this life was so before the event, or is started by it
was-before : (plan : Plan) (named : Facts) (e : Event) (r : Req) (own : Facts) → IsTrue (facts_after plan named e r own).started
    → IsTrue (starts r.number e) ⊎ IsTrue own.started
unfolding facts_after started_after
was-before plan named (event.Started q p) r own on = or_cases _ _ on
was-before plan named event.Resume r own on = absurd (both_ways false refl on)
was-before plan named _ r own on = inr on

-- so a span that holds those before the event and the one that it starts holds those after it
wider : (plan : Plan) (named : Facts) (e : Event) (facts : List Facts) (span wide : Span) → AreStartedWithin plan facts span
    → ((i : ℕ) (r : Req) → slice_get plan.requests i ≡ Some r → IsTrue (starts r.number e) → IsTrue (is_within i wide))
    → ((i : ℕ) → IsTrue (is_within i span) → IsTrue (is_within i wide)) → wide.to ≤ length plan.requests
    → AreStartedWithin plan (all_after plan named e plan.requests facts) wide
wider plan named e facts span wide are one all inside = record {
  all = λ i r new at found on. by i r new at (after-own plan named e plan.requests facts i r new at found) on;
  inside = inside;
} where
  by : (i : ℕ) (r : Req) (new : Facts) → slice_get plan.requests i ≡ Some r
      → (own : Facts) × (slice_get facts i ≡ Some own) × (facts_after plan named e r own ≡ new) → IsTrue new.started → IsTrue (is_within i wide)
  by i r new at (own, here, made) on = elim (was-before plan named e r own (ap (λ (f : Facts). f.started) made ∙ on)) [
    | inl starts ↦ one i r at starts
    | inr before ↦ all i (are.all i r own at here before)
  ]

pub started-more : (plan : Plan) (named : Facts) (e : Event) (id : RequestId) (place : PlaceId) (facts : List Facts) (span own wide : Span)
    → e ≡ event.Started id place → AreStartedWithin plan facts span → IsAround plan (is_request id) own → IsCover span own wide
    → AreStartedWithin plan (all_after plan named e plan.requests facts) wide
started-more plan named e id place facts span own wide is are around cover =
    rw is
    (wider plan named (event.Started id place) facts span wide are (λ i r at starts. cover.second i (around.all i r at starts)) cover.first
    (omega (arith, cover.inside, are.inside, around.inside)))

-- a resume begins a life
pub started-none : (plan : Plan) (named : Facts) (e : Event) (facts : List Facts) (span : Span) → e ≡ event.Resume → span.to ≡ 0
    → AreStartedWithin plan (all_after plan named e plan.requests facts) span
unfolding facts_after started_after
started-none plan named e facts span is end = rw is (record {
  all = λ i r new at found on. absurd (by i r new (after-own plan named event.Resume plan.requests facts i r new at found) on);
  inside = omega (arith, end);
}) where
  by : (i : ℕ) (r : Req) (new : Facts) → (own : Facts) × (slice_get facts i ≡ Some own) × (facts_after plan named event.Resume r own ≡ new) → IsTrue new.started → ⊥
  by i r new (own, here, made) on = both_ways false refl (ap (λ (f : Facts). f.started) made ∙ on)

-- any other event leaves them as they are
no-start : (e : Event) (id : RequestId) → ((q : RequestId) (p : PlaceId) → e ≡ event.Started q p → ⊥) → IsTrue (starts id e) → ⊥
no-start (event.Started q p) id none on = none q p refl
no-start _ id none on = both_ways false refl on

pub started-same : (plan : Plan) (named : Facts) (e : Event) (facts : List Facts) (span : Span) → ((q : RequestId) (p : PlaceId) → e ≡ event.Started q p → ⊥)
    → AreStartedWithin plan facts span → AreStartedWithin plan (all_after plan named e plan.requests facts) span
started-same plan named e facts span none are =
    wider plan named e facts span span are (λ i r at on. absurd (no-start e r.number none on)) (λ i h. h) are.inside
