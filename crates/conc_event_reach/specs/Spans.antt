-- Which requests stand together, and which ones an event leaves as they are.
use Rattle.std.specs.Prelude.{◌≡◌, ℕ, Bool, ◌&&◌, ◌≤◌, nat_le, nat_lt, IsFalse, IsTrue, length, List, Some, slice_get, unwrap_or}
use Rattle.std.specs.List.{filter}
use Rattle.conc_types.specs.declared.event.Event.{Event}
use Rattle.conc_types.specs.declared.event.RequestId.{RequestId}
use Rattle.conc_types.specs.declared.facts.Facts.{Facts}
use Rattle.conc_types.specs.declared.plan.Plan.{Plan}
use Rattle.conc_types.specs.declared.plan.Req.{Req}
use Rattle.conc_types.specs.Words.{numbered}
use Rattle.conc_base_law.specs.Plans.{is_member, members}
use Rattle.conc_event_effects.specs.Step.{facts_after}
use Rattle.conc_event_reach.specs.declared.span.Span.{Span}
use Rattle.conc_event_reach.specs.declared.spans.Spans.{Spans}

abbrev pub is_within : ℕ → Span → Bool
is_within i span = nat_le span.from i && nat_lt i span.to

-- the indexes within which the requests stand that a command enters, and those that are members of a set
unfoldable pub span_of_command : Spans → ℕ → Span
span_of_command spans command = unwrap_or (numbered spans.commands command) spans.whole

unfoldable pub span_of_members : Spans → RequestId → Span
span_of_members spans set = unwrap_or (numbered spans.members set.number) spans.whole

-- the spans are those of the plan's requests
pub record AreSpans (plan : Plan) (spans : Spans) : Type 0 where
  pub whole : spans.whole ≡ record { from = 0; to = length plan.requests }
  pub commands_inside : (n : ℕ) → (span_of_command spans n).to ≤ length plan.requests
  pub members_inside : (set : RequestId) → (span_of_members spans set).to ≤ length plan.requests
  pub entered : (i : ℕ) (r : Req) → slice_get plan.requests i ≡ Some r → IsTrue (is_within i (span_of_command spans r.command))
  pub members : (i : ℕ) (r : Req) (set : RequestId) → slice_get plan.requests i ≡ Some r → r.parent ≡ Some set → IsTrue (is_within i (span_of_members spans set))

-- these are the members of each stage of the set
abbrev pub AreMembers : Plan → RequestId → List Req → Type 0
AreMembers plan set requests = (stage : ℕ) → filter (is_member set stage) requests ≡ members plan set stage

-- the event leaves the facts of every request outside the span as they are
abbrev pub LeavesOthers : Plan → Event → Span → Type 0
LeavesOthers plan e span =
    (i : ℕ) (r : Req) → slice_get plan.requests i ≡ Some r → IsFalse (is_within i span) → (named own : Facts) → facts_after plan named e r own ≡ own
