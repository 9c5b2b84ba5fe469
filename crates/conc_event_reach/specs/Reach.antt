-- Which requests an event names, and spans that hold requests.
use Rattle.std.specs.Prelude.{◌≡◌, ℕ, Bool, true, false, ◌||◌, ◌==◌, ◌≤◌, IsTrue, length, max, Option, Some, slice_get}
use Rattle.conc_types.specs.declared.event.Event.{Event}
use Rattle.conc_types.specs.declared.event.Event.TheVariants as event
use Rattle.conc_types.specs.declared.event.RequestId.{RequestId}
use Rattle.conc_types.specs.declared.plan.Plan.{Plan}
use Rattle.conc_types.specs.declared.plan.Req.{Req}
use Rattle.conc_types.specs.declared.script.Act.{Act}
use Rattle.conc_types.specs.declared.script.Act.TheVariants as act
use Rattle.conc_types.specs.Words.{some_and}
use Rattle.conc_base_law.specs.Kinds.{act_of}
use Rattle.conc_base_law.specs.Words.{id_eq}
use Rattle.conc_event_reach.specs.Spans.{is_within}
use Rattle.conc_event_reach.specs.declared.span.Span.{Span}

-- ---- requests that an event names

abbrev pub is_request : RequestId → Req → Bool
is_request id r = id_eq id r.number

-- r is the set or one of its members
abbrev pub is_of_set : RequestId → Req → Bool
is_of_set set r = id_eq set r.number || some_and (id_eq set) r.parent

-- what a command does is done to r
unfoldable pub is_acted_on : Option Act → Req → Bool
is_acted_on (Some (act.Hold q)) r = is_request q r
is_acted_on (Some (act.Unhold q)) r = is_request q r
is_acted_on (Some (act.Cancel q)) r = is_of_set q r
is_acted_on (Some (act.Terminate q)) r = is_request q r
is_acted_on _ r = false

-- the event is about r
unfoldable pub is_about : Plan → Event → Req → Bool
is_about plan (event.Tick t) r = false
is_about plan (event.Command n) r = n == r.command || is_acted_on (act_of plan (event.Command n)) r
is_about plan (event.OpenSet s) r = is_request s r
is_about plan (event.Stage s k) r = is_request s r
is_about plan (event.CloseSet s o) r = is_of_set s r
is_about plan (event.LetOut q) r = is_request q r
is_about plan (event.Started q p) r = is_request q r
is_about plan (event.Ended q o x) r = is_request q r
is_about plan event.Resume r = true
is_about plan (event.Interrupt q) r = is_request q r

-- ---- spans

-- all requests that pass stand within the span, which ends where the requests end, or before
pub record IsAround (plan : Plan) (test : Req → Bool) (span : Span) : Type 0 where
  pub all : (i : ℕ) (r : Req) → slice_get plan.requests i ≡ Some r → IsTrue (test r) → IsTrue (is_within i span)
  pub inside : span.to ≤ length plan.requests

-- the span holds what two spans hold, and ends where one of them ends, or before
pub record IsCover (a b span : Span) : Type 0 where
  pub first : (i : ℕ) → IsTrue (is_within i a) → IsTrue (is_within i span)
  pub second : (i : ℕ) → IsTrue (is_within i b) → IsTrue (is_within i span)
  pub inside : span.to ≤ max a.to b.to
