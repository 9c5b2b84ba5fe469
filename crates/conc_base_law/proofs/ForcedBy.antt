-- By which of the four ways an event is forced.
use Rattle.std.proofs.Common.{◌≡◌, ◌⊎◌, ℕ, true, false, not, ◌&&◌, Option, None, Some, refl, sym, ◌∙◌, subst, inl, inr}
use Rattle.std.specs.List.{enumerate_from, find, list_any}
use Rattle.std.proofs.lemmas.Bool.{and_parts, cases_Bool, cond-true, cond-false}
use Rattle.conc_types.specs.declared.event.Event.{Event}
use Rattle.conc_types.specs.declared.event.Event.TheVariants as event
use Rattle.conc_types.specs.declared.event.Outcome.{Outcome}
use Rattle.conc_types.specs.declared.facts.State.{State}
use Rattle.conc_types.specs.declared.plan.Plan.{Plan}
use Rattle.conc_types.specs.declared.plan.Req.{Req}
use Rattle.conc_types.specs.declared.script.Order.{Order}
use Rattle.conc_base_law.specs.Next.{forced, forced_command, forced_interrupt, forced_let, forced_step, has_step, is_due, is_left_running, let_event, may_let}
use Rattle.conc_base_law.specs.Plans.{precedes}
use Rattle.conc_base_law.specs.Stages.{after_stage, has_ended, next_stage, set_outcome, set_step, step_from}
use Rattle.conc_base_law.specs.State.{facts_at}
use Rattle.conc_base_law.specs.Words.{first_by, Has, is_set}
use Rattle.conc_base_law.proofs.FirstBy.{find-some}
use Rattle.conc_base_law.proofs.Options.{and_then-some, map-some, or-some, then_some-some}

-- ---- the event of a step, and of a let

-- the event begins a stage of the set, or closes it
abbrev pub IsStep : Req → Event → Type 0
IsStep set e = ((k : ℕ) × (e ≡ event.Stage set.number k)) ⊎ ((o : Outcome) × (e ≡ event.CloseSet set.number o))

-- what follows a stage is a step
after_stage-step : (plan : Plan) (s : State) (set : Req) (last : ℕ) (next : Option ℕ) → IsStep set (after_stage plan s set last next)
after_stage-step plan s set last None = inr (set_outcome plan s set last, refl)
after_stage-step plan s set last (Some next) = inl (next, refl)

-- what follows the current stage is a step
step_from-step : (plan : Plan) (s : State) (set : Req) (current : Option ℕ) (e : Event) → step_from plan s set current ≡ Some e → IsStep set e
step_from-step plan s set None e h = let k : event.Stage set.number 1 ≡ e = cc in inl (1, sym k)
step_from-step plan s set (Some stage) e h =
    let p : (has_ended plan s set stage ≡ true) × (after_stage plan s set stage (next_stage plan s set stage) ≡ e) = then_some-some _ _ e h in
    subst (IsStep set) p.1 (after_stage-step plan s set stage (next_stage plan s set stage))

-- what a set does next is such an event
pub set_step-step : (plan : Plan) (s : State) (set : Req) (e : Event) → set_step plan s set ≡ Some e → IsStep set e
unfolding set_step
set_step-step plan s set e h = step_from-step plan s set (facts_at s set).stage e h

-- the event opens the set, or lets the request out
abbrev pub IsLet : Req → Event → Type 0
IsLet r e = ((is_set r.item ≡ true) × (e ≡ event.OpenSet r.number)) ⊎ ((is_set r.item ≡ false) × (e ≡ event.LetOut r.number))

-- the event that lets a request out opens it, if it is a set
pub let_event-let : (r : Req) (e : Event) → let_event r ≡ e → IsLet r e
let_event-let r e h = elim (cases_Bool (is_set r.item)) [
  | inl t ↦ inl (t, sym h ∙ cond-true (is_set r.item) (event.OpenSet r.number) (event.LetOut r.number) t)
  | inr f ↦ inr (f, sym h ∙ cond-false (is_set r.item) (event.OpenSet r.number) (event.LetOut r.number) f)
]

-- ---- the four ways

-- the event is an interrupt of a request left running, a command, a step of an open set, or a let of a request that can be let
pub data ForcedBy (plan : Plan) (s : State) (e : Event) : Type 0 where
  by_interrupt : (r : Req) → Has plan.requests r → is_left_running s r ≡ true → e ≡ event.Interrupt r.number → ForcedBy plan s e
  by_command : (n : ℕ) → e ≡ event.Command n → ForcedBy plan s e
  by_step : (set : Req) → Has plan.requests set → has_step plan s set ≡ true → IsStep set e → ForcedBy plan s e
  by_let : (r : Req) → Has plan.requests r → may_let plan s r ≡ true → IsLet r e → ForcedBy plan s e

-- the first way
interrupt-by : (plan : Plan) (s : State) (e : Event) → forced_interrupt plan s ≡ Some e → ForcedBy plan s e
unfolding forced_interrupt
interrupt-by plan s e h =
    let p : (r : Req) × (find (is_left_running s) plan.requests ≡ Some r) × (event.Interrupt r.number ≡ e) =
    map-some (λ r. event.Interrupt r.number) (find (is_left_running s) plan.requests) e h in
    let f : (is_left_running s p.0 ≡ true) × Has plan.requests p.0 = find-some (is_left_running s) plan.requests p.0 p.1 in
    by_interrupt p.0 f.1 f.0 (sym p.2)

-- the second
command-by : (plan : Plan) (s : State) (e : Event) → forced_command plan s ≡ Some e → ForcedBy plan s e
unfolding forced_command
command-by plan s e h =
    let p : (order : ℕ × Order) × (find (is_due s) (enumerate_from 1 plan.script.commands) ≡ Some order) × (event.Command order.0 ≡ e) =
    map-some (λ order. event.Command order.0) (find (is_due s) (enumerate_from 1 plan.script.commands)) e h in
    by_command p.0.0 (sym p.2)

-- the third
step-by : (plan : Plan) (s : State) (e : Event) → forced_step plan s ≡ Some e → ForcedBy plan s e
unfolding forced_step
step-by plan s e h =
    let p : (set : Req) × (find (has_step plan s) plan.requests ≡ Some set) × (set_step plan s set ≡ Some e) =
    and_then-some (set_step plan s) (find (has_step plan s) plan.requests) e h in
    let f : (has_step plan s p.0 ≡ true) × Has plan.requests p.0 = find-some (has_step plan s) plan.requests p.0 p.1 in
    by_step p.0 f.1 f.0 (set_step-step plan s p.0 e p.2)

-- the fourth
let-by : (plan : Plan) (s : State) (e : Event) → forced_let plan s ≡ Some e → ForcedBy plan s e
unfolding forced_let
let-by plan s e h =
    let p : (r : Req) × (first_by precedes (may_let plan s) plan.requests ≡ Some r) × (let_event r ≡ e) =
    map-some let_event (first_by precedes (may_let plan s) plan.requests) e h in
    let f : ((may_let plan s p.0 && not (list_any (λ y. may_let plan s y && precedes y p.0) plan.requests)) ≡ true) × Has plan.requests p.0 =
    find-some (λ x. may_let plan s x && not (list_any (λ y. may_let plan s y && precedes y x) plan.requests)) plan.requests p.0 p.1 in
    by_let p.0 f.1 (and_parts (may_let plan s p.0) _ f.0).0 (let_event-let p.0 e p.2)

-- what is forced is forced by one of them
pub forced-by : (plan : Plan) (s : State) (e : Event) → forced plan s ≡ Some e → ForcedBy plan s e
unfolding forced
forced-by plan s e h = elim (or-some (forced_interrupt plan s) _ e h) [
  | inl a ↦ interrupt-by plan s e a
  | inr b ↦ elim (or-some (forced_command plan s) _ e b) [
    | inl a ↦ command-by plan s e a
    | inr c ↦ elim (or-some (forced_step plan s) _ e c) [ inl a ↦ step-by plan s e a | inr d ↦ let-by plan s e d ]
  ]
]
