-- One request that is put anew.
use Rattle.std.proofs.Common.{◌≡◌, ℕ, ◌-◌, Bool, List, length, set, Option, Some, sym, ◌∙◌, ap, inl, inr, subst}
use Rattle.std.specs.Bool.{then_some}
use Rattle.std.proofs.lemmas.Bool.{cases_eq}
use Rattle.std.proofs.lemmas.List.{length-set}
use Rattle.conc_types.specs.declared.event.Moment.{Moment}
use Rattle.conc_types.specs.declared.facts.State.{State}
use Rattle.conc_types.specs.declared.plan.Plan.{Plan}
use Rattle.conc_types.specs.declared.plan.Req.{Req}
use Rattle.conc_base_law.specs.Next.{has_step, is_left_running, is_ready, runs_somewhere}
use Rattle.conc_base_law.specs.State.{facts_at, is_live}
use Rattle.conc_base_law.specs.Words.{Has}
use Rattle.conc_event_classes.specs.Classes.{AreClasses, class_at, slot_at}
use Rattle.conc_event_classes.specs.declared.classes.Classes.{Classes}
use Rattle.conc_event_queue.specs.Turns.{turn}
use Rattle.conc_history_check.specs.Marks.{HaveRoom, HasSlot, IsMarked, IsMarkedSince, KeepsMarks, waits_to_start}
use Rattle.conc_history_check.specs.declared.marks.Marks.{Marks}
use Rattle.conc_history_check.proofs.Slots.{class-other, class-own, class-there, has-slot, Put, queues-put, same_number, slot-other, slot-own}

-- the number of r is written where r passes
abbrev pub IsNumberPut : Req → Bool → List (Option ℕ) → List (Option ℕ) → Type 0
IsNumberPut r b was is = is ≡ set was (r.number.number - 1) (then_some b r.number.number)

-- what is said of r is written
pub record IsPut (plan : Plan) (classes : Classes) (s : State) (r : Req) (was is : Marks) : Type 0 where
  pub left : IsNumberPut r (is_left_running s r) was.left is.left
  pub running : IsNumberPut r (runs_somewhere s r) was.running is.running
  pub waiting : IsNumberPut r (waits_to_start s r) was.waiting is.waiting
  pub steps : IsNumberPut r (has_step plan s r) was.steps is.steps
  pub live : Put was.live.items is.live.items (class_at classes r) (slot_at classes r) (then_some (is_live (facts_at s r)) r.number.number)
  pub ready : Put was.ready.items is.ready.items (class_at classes r) (slot_at classes r) (then_some (is_ready plan s r) (turn r))

module _ (plan : Plan) (classes : Classes) (are : AreClasses plan classes) (s : State) (r : Req) (known : Has plan.requests r) (was is : Marks) (room : HaveRoom plan classes was) (written : IsPut plan classes s r was is) where
  pub put-room : HaveRoom plan classes is
  put-room = record {
    left = ap length written.left ∙ length-set was.left _ _ ∙ room.left;
    running = ap length written.running ∙ length-set was.running _ _ ∙ room.running;
    waiting = ap length written.waiting ∙ length-set was.waiting _ _ ∙ room.waiting;
    steps = ap length written.steps ∙ length-set was.steps _ _ ∙ room.steps;
    live = queues-put plan classes are was.live.items is.live.items r _ room.live known written.live;
    ready = queues-put plan classes are was.ready.items is.ready.items r _ room.ready known written.ready;
  }

  pub put-own : IsMarked plan classes s r is
  put-own = record {
    left = slot-own was.left is.left r (is_left_running s r) (has-slot plan was.left r room.left known) written.left;
    running = slot-own was.running is.running r (runs_somewhere s r) (has-slot plan was.running r room.running known) written.running;
    waiting = slot-own was.waiting is.waiting r (waits_to_start s r) (has-slot plan was.waiting r room.waiting known) written.waiting;
    steps = slot-own was.steps is.steps r (has_step plan s r) (has-slot plan was.steps r room.steps known) written.steps;
    live = class-own classes was.live.items is.live.items r _ (class-there plan classes are was.live.items room.live r known) written.live;
    ready = class-own classes was.ready.items is.ready.items r _ (class-there plan classes are was.ready.items room.ready r known) written.ready;
  }

  pub put-kept : KeepsMarks plan classes s was is
  put-kept q has marked = elim (cases_eq q.number.number r.number.number) [
    | inl same ↦ subst (λ z. IsMarked plan classes s z is) (same_number plan r q known has (sym same)) put-own
    | inr ne ↦ record {
      left = slot-other was.left is.left r q (is_left_running s r) _ (has-slot plan was.left r room.left known) (has-slot plan was.left q room.left has) ne written.left marked.left;
      running = slot-other was.running is.running r q (runs_somewhere s r) _ (has-slot plan was.running r room.running known) (has-slot plan was.running q room.running has) ne written.running marked.running;
      waiting = slot-other was.waiting is.waiting r q (waits_to_start s r) _ (has-slot plan was.waiting r room.waiting known) (has-slot plan was.waiting q room.waiting has) ne written.waiting marked.waiting;
      steps = slot-other was.steps is.steps r q (has_step plan s r) _ (has-slot plan was.steps r room.steps known) (has-slot plan was.steps q room.steps has) ne written.steps marked.steps;
      live = class-other plan classes are was.live.items is.live.items r q _ _ known has (class-there plan classes are was.live.items room.live r known) ne written.live marked.live;
      ready = class-other plan classes are was.ready.items is.ready.items r q _ _ known has (class-there plan classes are was.ready.items room.ready r known) ne written.ready marked.ready;
    }
  ]

-- what was right since a moment still is
pub since-kept : (plan : Plan) (classes : Classes) (before : Option Moment) (s : State) (q : Req) (was is : Marks) → Has plan.requests q → KeepsMarks plan classes s was is
    → IsMarkedSince plan classes before s q was → IsMarkedSince plan classes before s q is
since-kept plan classes before s q was is has kept (inl same) = inl same
since-kept plan classes before s q was is has kept (inr marked) = inr (kept q has marked)
