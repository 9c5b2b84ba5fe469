-- The requests that were started in a life, and given facts that an event leaves as they are.
use Rattle.std.specs.Prelude.{◌≡◌, ℕ, ◌≤◌, IsFalse, IsTrue, length, List, Some, slice_get}
use Rattle.conc_types.specs.declared.event.Event.{Event}
use Rattle.conc_types.specs.declared.facts.Facts.{Facts}
use Rattle.conc_types.specs.declared.plan.Plan.{Plan}
use Rattle.conc_types.specs.declared.plan.Req.{Req}
use Rattle.conc_event_effects.specs.Step.{facts_after}
use Rattle.conc_event_reach.specs.Spans.{is_within}
use Rattle.conc_event_reach.specs.declared.span.Span.{Span}

-- each request that was started in this life stands within the span, which ends where the requests end, or before
pub record AreStartedWithin (plan : Plan) (facts : List Facts) (span : Span) : Type 0 where
  pub all : (i : ℕ) (r : Req) (own : Facts) → slice_get plan.requests i ≡ Some r → slice_get facts i ≡ Some own → IsTrue own.started → IsTrue (is_within i span)
  pub inside : span.to ≤ length plan.requests

-- the event leaves those of these facts that stand outside the span as they are
abbrev pub LeavesFacts : Plan → Event → List Facts → Span → Type 0
LeavesFacts plan e facts span =
    (i : ℕ) (r : Req) (own : Facts) → slice_get plan.requests i ≡ Some r → slice_get facts i ≡ Some own → IsFalse (is_within i span)
    → (named : Facts) → facts_after plan named e r own ≡ own
