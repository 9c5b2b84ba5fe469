-- The facts of one request after one more event.
use Rattle.std.proofs.Common.{◌≡◌, Bool, true, false, not, ◌&&◌, ◌||◌, ◌==◌, List, ◌∷◌, Option, None, Some, refl, ◌∙◌, ap, inl, inr}
use Rattle.std.proofs.lemmas.Bool.{cases_Bool}
use Rattle.std.specs.Bool.{then_some}
use Rattle.std.specs.Option.{option_and_then}
use Rattle.std.specs.Prelude.{if◌then◌else◌}
use Rattle.conc_types.specs.declared.event.Event.{Event}
use Rattle.conc_types.specs.declared.event.Event.TheVariants as event
use Rattle.conc_types.specs.declared.event.Outcome.{Outcome}
use Rattle.conc_types.specs.declared.event.Outcome.TheVariants as outcome
use Rattle.conc_types.specs.declared.event.RequestId.{RequestId}
use Rattle.conc_types.specs.declared.facts.Facts.{Facts}
use Rattle.conc_types.specs.declared.plan.Plan.{Plan}
use Rattle.conc_types.specs.declared.plan.Req.{Req}
use Rattle.conc_types.specs.Plans.{request}
use Rattle.conc_types.specs.Stages.{has_stage}
use Rattle.conc_types.specs.Words.{some_and}
use Rattle.conc_base_law.specs.Facts.{cancels, completes, completion, current_stage, facts_of, holds, is_entered, is_held, is_idle, is_let, is_open, running_place, runs, stages_begun, terminates, unholds, unlets, waits_for_stage, was_completed, was_started, was_terminated}
use Rattle.conc_base_law.specs.Kinds.{act_of, closes, is_cancel, is_resume, opens, starts}
use Rattle.conc_base_law.specs.Before.{last_life, occurs}
use Rattle.conc_base_law.specs.Plans.{parent}
use Rattle.conc_base_law.specs.Words.{Has, id_eq, is_set}
use Rattle.conc_base_law.proofs.Numbering.{found}
use Rattle.conc_event_effects.specs.Step.{begun_after, cancelled_by, cancels_set, entered_after, facts_after, held_after, held_by, idle, let_after, opened_after, outcome_by, place_after, stage_after, started_after, terminated_after, unheld_by, unlet_by, waits_in}

-- these are the facts of the set that the event cancels or closes
pub record IsNamed (plan : Plan) (past : List Event) (e : Event) (named : Facts) : Type 0 where
  pub cancelled : (set : Req) → Has plan.requests set → some_and (is_cancel set.number) (act_of plan e) ≡ true
      → is_idle past (completion plan past) set ≡ idle named
  pub closed : (set : Req) → Has plan.requests set → closes set.number e ≡ true → stages_begun past set.number ≡ named.begun.bits

-- ---- the outcome

-- a parent is a request of the plan
parent_in : (plan : Plan) (id : Option RequestId) (set : Req) → option_and_then (request plan) id ≡ Some set → Has plan.requests set
parent_in plan None set h = cc
parent_in plan (Some id) set h = (found plan id set h).1

-- a cancel of a set takes effect where the set that it names is idle
cancels_set-step : (plan : Plan) (past : List Event) (named : Facts) (e : Event) (set : Option Req)
    → ((q : Req) → set ≡ Some q → some_and (is_cancel q.number) (act_of plan e) ≡ true → is_idle past (completion plan past) q ≡ idle named)
    → some_and (λ q. cancels plan past (completion plan past) q e) set
    ≡ (some_and (λ q. some_and (is_cancel q.number) (act_of plan e)) set && idle named)
unfolding cancels
cancels_set-step plan past named e None h = refl
cancels_set-step plan past named e (Some q) h = elim (cases_Bool (some_and (is_cancel q.number) (act_of plan e))) [
  | inl t ↦ rw t (h q refl t)
  | inr f ↦ rw f refl
]

-- a member of the closed set waits where that set has not begun its stage
waits-step : (plan : Plan) (past : List Event) (named : Facts) (s : RequestId) (o : Outcome) (r : Req)
    → IsNamed plan past (event.CloseSet s o) named
    → (some_and (id_eq s) r.parent && waits_for_stage plan past r) ≡ (some_and (id_eq s) r.parent && waits_in plan named r)
unfolding waits_for_stage waits_in parent
waits-step plan past named s o r h = by r.parent where
  at : (id : RequestId) (p : Option Req) → request plan id ≡ p → id_eq s id ≡ true
      → some_and (λ set. not (has_stage (stages_begun past set.number) r.stage)) p
      ≡ some_and (λ set. not (has_stage named.begun.bits r.stage)) p
  at id None is same = refl
  at id (Some set) is same =
      let own : id_eq s set.number ≡ true = ap (λ n. s.number == n) (found plan id set is).0 ∙ same in
      ap (λ bits. not (has_stage bits r.stage)) (h.closed set (found plan id set is).1 own)

  by : (id : Option RequestId)
      → (some_and (id_eq s) id && some_and (λ set. not (has_stage (stages_begun past set.number) r.stage)) (option_and_then (request plan) id))
      ≡ (some_and (id_eq s) id && some_and (λ set. not (has_stage named.begun.bits r.stage)) (option_and_then (request plan) id))
  by None = refl
  by (Some id) = elim (cases_Bool (id_eq s id)) [
    | inl t ↦ rw t (at id (request plan id) refl t)
    | inr f ↦ rw f refl
  ]

-- an event completes a request where its facts say so
outcome-step : (plan : Plan) (past : List Event) (named : Facts) (e : Event) (r : Req) → IsNamed plan past e named
    → completes plan past (completion plan past) r e ≡ outcome_by plan named r e (facts_of plan past r)
unfolding completes outcome_by facts_of cancels cancelled_by cancels_set is_idle idle runs parent
outcome-step plan past named (event.Command n) r h =
    ap (λ b. then_some ((some_and (is_cancel r.number) (act_of plan (event.Command n)) && is_idle past (completion plan past) r) || b) outcome.Cancelled)
    (cancels_set-step plan past named (event.Command n) (parent plan r) (λ q k t. h.cancelled q (parent_in plan r.parent q k) t))
outcome-step plan past named (event.Ended q o x) r h = refl
outcome-step plan past named (event.CloseSet s o) r h =
    ap (λ b. if id_eq s r.number then Some o else then_some b outcome.Cancelled) (waits-step plan past named s o r h)
outcome-step plan past named (event.Interrupt q) r h = refl
outcome-step plan past named _ r h = refl

-- ---- the other facts

-- a request is started in the last life if the event starts it, or it was, and the event is no resume
started-step : (e : Event) (past : List Event) (r : RequestId)
    → occurs (starts r) (last_life (e ∷ past)) ≡ (not (is_resume e) && (starts r e || occurs (starts r) (last_life past)))
unfolding last_life
started-step e past r = elim (cases_Bool (is_resume e)) [ inl h ↦ rw h refl | inr h ↦ rw h refl ]

-- what holds of sets alone, of a request that is a set or is none
opened-step : (b o n s : Bool) → (b && (o || (n && s))) ≡ ((b && o) || (n && (b && s)))
opened-step true o n s = refl
opened-step false o true s = refl
opened-step false o false s = refl

-- one more event changes the facts so
pub facts-step : (plan : Plan) (past : List Event) (named : Facts) (e : Event) (r : Req) → IsNamed plan past e named
    → facts_of plan (e ∷ past) r ≡ facts_after plan named e r (facts_of plan past r)
unfolding facts_of facts_after entered_after held_after opened_after stage_after begun_after let_after place_after started_after terminated_after unlet_by held_by cancelled_by unheld_by idle is_entered is_held is_open current_stage stages_begun is_let running_place runs was_started was_terminated was_completed completion holds unholds unlets terminates cancels is_idle
facts-step plan past named e r h =
    rw (started-step e past r.number, opened-step (is_set r.item) (opens r.number e) _ _, outcome-step plan past named e r h) refl
