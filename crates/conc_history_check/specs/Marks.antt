-- Which requests stand in queues, so that no pass over all of them is needed.
use Rattle.std.specs.Prelude.{◌≡◌, ◌⊎◌, ℕ, ◌-◌, ◌<◌, ◌≤◌, Bool, not, ◌&&◌, ◌||◌, IsTrue, List, [], length, map, Option, Some, slice_get, slice_index_or}
use Rattle.std.specs.Bool.{then_some}
use Rattle.conc_types.specs.declared.event.Moment.{Moment}
use Rattle.conc_types.specs.declared.facts.State.{State}
use Rattle.conc_types.specs.declared.plan.Plan.{Plan}
use Rattle.conc_types.specs.declared.plan.Req.{Req}
use Rattle.conc_types.specs.Words.{some_and}
use Rattle.conc_base_law.specs.Next.{has_step, is_left_running, is_ready, runs_somewhere}
use Rattle.conc_base_law.specs.State.{facts_at, has_come, is_live, is_running}
use Rattle.conc_base_law.specs.Words.{Has, id_eq}
use Rattle.conc_event_classes.specs.Classes.{class_at, slot_at}
use Rattle.conc_event_classes.specs.declared.classes.Classes.{Classes}
use Rattle.conc_event_queue.specs.Turns.{turn}
use Rattle.conc_event_reach.specs.Spans.{is_within}
use Rattle.conc_event_reach.specs.declared.span.Span.{Span}
use Rattle.conc_history_check.specs.declared.marks.Marks.{Marks}

-- ---- slots

-- what stands in the slot of a request in a queue of all requests: the slot before its number
abbrev pub slot_of : List (Option ℕ) → Req → Option (Option ℕ)
slot_of queue r = slice_get queue (r.number.number - 1)

-- there is a slot of the request
abbrev pub HasSlot : List (Option ℕ) → Req → Type 0
HasSlot queue r = (0 < r.number.number) × (r.number.number ≤ length queue)

-- the queue of a class
abbrev pub queue_at : List (List (Option ℕ)) → ℕ → List (Option ℕ)
queue_at queues c = slice_index_or queues c []

-- what stands in the slot of a request in the queue of its class
abbrev pub slot_in_class : Classes → List (List (Option ℕ)) → Req → Option (Option ℕ)
slot_in_class classes queues r = slice_get (queue_at queues (class_at classes r)) (slot_at classes r)

-- each class has a queue, with a slot for each of its requests, and keys stand in slots of requests alone
pub record AreQueues (plan : Plan) (classes : Classes) (queues : List (List (Option ℕ))) : Type 0 where
  pub slots : map length queues ≡ classes.sizes
  pub own : (c slot key : ℕ) → slice_get (queue_at queues c) slot ≡ Some (Some key) → (r : Req) × Has plan.requests r × (class_at classes r ≡ c) × (slot_at classes r ≡ slot)

-- there is a slot for each request, and for each class a queue
pub record HaveRoom (plan : Plan) (classes : Classes) (marks : Marks) : Type 0 where
  pub left : length marks.left ≡ length plan.requests
  pub running : length marks.running ≡ length plan.requests
  pub waiting : length marks.waiting ≡ length plan.requests
  pub steps : length marks.steps ≡ length plan.requests
  pub live : AreQueues plan classes marks.live.items
  pub ready : AreQueues plan classes marks.ready.items

-- ---- what they say

-- r is let out and does not run
unfoldable pub waits_to_start : State → Req → Bool
waits_to_start s r = (facts_at s r).let_out && not (is_running (facts_at s r))

-- the slots of a request say what the state does: its number stands where the request passes, and its turn where it is ready
pub record IsMarked (plan : Plan) (classes : Classes) (s : State) (r : Req) (marks : Marks) : Type 0 where
  pub left : slot_of marks.left r ≡ Some (then_some (is_left_running s r) r.number.number)
  pub running : slot_of marks.running r ≡ Some (then_some (runs_somewhere s r) r.number.number)
  pub waiting : slot_of marks.waiting r ≡ Some (then_some (waits_to_start s r) r.number.number)
  pub steps : slot_of marks.steps r ≡ Some (then_some (has_step plan s r) r.number.number)
  pub live : slot_in_class classes marks.live.items r ≡ Some (then_some (is_live (facts_at s r)) r.number.number)
  pub ready : slot_in_class classes marks.ready.items r ≡ Some (then_some (is_ready plan s r) (turn r))

-- so those of each request
pub record AreMarks (plan : Plan) (classes : Classes) (s : State) (marks : Marks) : Type 0 where
  pub room : HaveRoom plan classes marks
  pub all : (r : Req) → Has plan.requests r → IsMarked plan classes s r marks

-- ---- what is put anew

-- what is said of q can depend on r: q is r, a member of r, or the set of which r is a member
unfoldable pub is_near : Req → Req → Bool
is_near r q = id_eq r.number q.number || (some_and (id_eq r.number) q.parent || some_and (id_eq q.number) r.parent)

-- where the slots of a request said what the state does, they still do
abbrev pub KeepsMarks : Plan → Classes → State → Marks → Marks → Type 0
KeepsMarks plan classes s old new = (q : Req) → Has plan.requests q → IsMarked plan classes s q old → IsMarked plan classes s q new

-- the slots of each request within the span do
abbrev pub AreMarkedWithin : Plan → Classes → State → Span → Marks → Type 0
AreMarkedWithin plan classes s span marks =
    (i : ℕ) (q : Req) → slice_get plan.requests i ≡ Some q → IsTrue (is_within i span) → IsMarked plan classes s q marks

-- those of each request do whose marks can depend on r
abbrev pub AreMarkedNear : Plan → Classes → State → Req → Marks → Type 0
AreMarkedNear plan classes s r marks = (q : Req) → Has plan.requests q → IsTrue (is_near r q) → IsMarked plan classes s q marks

-- the slots of a request do, unless its start has come as little, or as well, as it had before
abbrev pub IsMarkedSince : Plan → Classes → Option Moment → State → Req → Marks → Type 0
IsMarkedSince plan classes before s q marks = (has_come before q.start ≡ has_come s.time q.start) ⊎ IsMarked plan classes s q marks

-- so those of each request
abbrev pub AreMarkedSince : Plan → Classes → Option Moment → State → Marks → Type 0
AreMarkedSince plan classes before s marks = (q : Req) → Has plan.requests q → IsMarkedSince plan classes before s q marks

-- so of each r within the span
abbrev pub AreMarkedAround : Plan → Classes → State → Span → Marks → Type 0
AreMarkedAround plan classes s span marks =
    (i : ℕ) (r : Req) → slice_get plan.requests i ≡ Some r → IsTrue (is_within i span) → AreMarkedNear plan classes s r marks
