-- What holds where a start, or a stage, comes next.
use Rattle.std.proofs.Common.{◌≡◌, ℕ, Bool, true, ◌&&◌, not, List, [], ◌∷◌, ◌++◌, reverse, Option, None, Some, refl, sym, ◌∙◌, ap, subst, inl, inr}
use Rattle.std.specs.List.{enumerate_from, find}
use Rattle.std.proofs.lemmas.Bool.{and_parts}
use Rattle.std.proofs.lemmas.List.{reverse-append}
use Rattle.conc_types.specs.declared.event.Event.{Event}
use Rattle.conc_types.specs.declared.event.Event.TheVariants as event
use Rattle.conc_types.specs.declared.event.PlaceId.{PlaceId}
use Rattle.conc_types.specs.declared.facts.State.{State}
use Rattle.conc_types.specs.declared.plan.Plan.{Plan}
use Rattle.conc_types.specs.declared.plan.Req.{Req}
use Rattle.conc_types.specs.Words.{some_and}
use Rattle.conc_base_law.specs.Law.{is_lawful_so_far, may_follow}
use Rattle.conc_base_law.specs.Managers.{admits}
use Rattle.conc_base_law.specs.Next.{forced, forced_command, forced_interrupt, forced_let, forced_step, has_step, is_allowed, is_due, is_left_running, is_vacant, let_event, may_let, may_start}
use Rattle.conc_base_law.specs.Places.{is_usable, place_of}
use Rattle.conc_base_law.specs.Plans.{precedes}
use Rattle.conc_base_law.specs.Stages.{after_stage, has_ended, next_stage, set_outcome, set_step, step_from}
use Rattle.conc_base_law.specs.State.{facts_at, is_running, state}
use Rattle.conc_base_law.specs.Words.{first_by, Has}
use Rattle.conc_base_law.proofs.Comes.{came, same_request}
use Rattle.conc_base_law.proofs.FirstBy.{find-some}
use Rattle.conc_base_law.proofs.ForcedBy.{let_event-let, set_step-step}
use Rattle.conc_base_law.proofs.Options.{and_then-some, map-some, or-some, then_some-some}
use Rattle.conc_base_law.specs.Promises.{IsAdmitted, IsNextAfter, IsNextStage}

-- the last event of a history that is lawful may follow those before it
pub last-follows : (plan : Plan) (before : List Event) (e : Event) → is_lawful_so_far plan (reverse (before ++ e ∷ [])) ≡ true → may_follow plan None (reverse before) e ≡ true
unfolding is_lawful_so_far
last-follows plan before e h =
    let turned : is_lawful_so_far plan (e ∷ reverse before) ≡ true = ap (is_lawful_so_far plan) (sym (reverse-append before (e ∷ []))) ∙ h in
    (and_parts (is_lawful_so_far plan (reverse before)) _ turned).1

-- ---- a start

pub start-admitted : (plan : Plan) (s : State) (r : Req) (place : PlaceId) → may_start plan s r place ≡ true → IsAdmitted plan s r place
unfolding may_start
start-admitted plan s r place h =
    let admitted : Bool = some_and (λ p. admits p.manager r) (place_of plan place) in
    let usable : Bool = some_and (λ t. is_usable plan t place) s.time in
    let rest : (not (is_running (facts_at s r)) && (admitted && (usable && is_vacant plan s place))) ≡ true = (and_parts (facts_at s r).let_out _ h).1 in
    let three : (admitted ≡ true) × ((usable && is_vacant plan s place) ≡ true) = and_parts admitted _ (and_parts (not (is_running (facts_at s r))) _ rest).1 in
    let two : (usable ≡ true) × (is_vacant plan s place ≡ true) = and_parts usable _ three.1 in
    record { admitted = three.0; usable = two.0; vacant = two.1 }

-- ---- a stage

-- a forced stage is the step of its set
stage-step : (plan : Plan) (s : State) (set : Req) (stage : ℕ) → Has plan.requests set → forced_step plan s ≡ Some (event.Stage set.number stage) → set_step plan s set ≡ Some (event.Stage set.number stage)
unfolding forced_step
stage-step plan s set stage hs h =
    let p : (other : Req) × (find (has_step plan s) plan.requests ≡ Some other) × (set_step plan s other ≡ Some (event.Stage set.number stage)) =
    and_then-some (set_step plan s) (find (has_step plan s) plan.requests) (event.Stage set.number stage) h in
    let has : Has plan.requests p.0 = (find-some (has_step plan s) plan.requests p.0 p.1).1 in
    let own : p.0 ≡ set = elim (set_step-step plan s p.0 (event.Stage set.number stage) p.2) [
      | inl e ↦
          let k : event.Stage set.number stage ≡ event.Stage p.0.number e.0 = e.1 in
          let n : p.0.number ≡ set.number = cc in
          same_request plan p.0 set has hs n
      | inr e ↦ let k : event.Stage set.number stage ≡ event.CloseSet p.0.number e.0 = e.1 in absurd (cc)
    ] in
    subst (λ (q : Req). set_step plan s q ≡ Some (event.Stage set.number stage)) own p.2

forced-stage : (plan : Plan) (s : State) (set : Req) (stage : ℕ) → Has plan.requests set → forced plan s ≡ Some (event.Stage set.number stage) → set_step plan s set ≡ Some (event.Stage set.number stage)
unfolding forced forced_interrupt forced_command forced_let
forced-stage plan s set stage hs h =
    let e : Event = event.Stage set.number stage in
    elim (or-some (forced_interrupt plan s) _ e h) [
      | inl a ↦
          let p : (r : Req) × (find (is_left_running s) plan.requests ≡ Some r) × (event.Interrupt r.number ≡ e) =
          map-some (λ r. event.Interrupt r.number) (find (is_left_running s) plan.requests) e a in
          let k : event.Interrupt p.0.number ≡ event.Stage set.number stage = p.2 in
          absurd (cc)
      | inr b ↦ elim (or-some (forced_command plan s) _ e b) [
        | inl a ↦
            let p = map-some (λ order. event.Command order.0) (find (is_due s) (enumerate_from 1 plan.script.commands)) e a in
            let k : event.Command p.0.0 ≡ event.Stage set.number stage = p.2 in
            absurd (cc)
        | inr c ↦ elim (or-some (forced_step plan s) _ e c) [
          | inl a ↦ stage-step plan s set stage hs a
          | inr d ↦
              let p = map-some let_event (first_by precedes (may_let plan s) plan.requests) e d in
              elim (let_event-let p.0 e p.2) [
                | inl l ↦ let k : event.Stage set.number stage ≡ event.OpenSet p.0.number = l.1 in absurd (cc)
                | inr l ↦ let k : event.Stage set.number stage ≡ event.LetOut p.0.number = l.1 in absurd (cc)
              ]
        ]
      ]
    ]

-- the step that begins a stage, by the stage that began last
step-next : (plan : Plan) (s : State) (set : Req) (last : Option ℕ) (stage : ℕ) → step_from plan s set last ≡ Some (event.Stage set.number stage) → IsNextAfter plan s set stage last
step-next plan s set None stage h =
    let e : event.Stage set.number 1 ≡ event.Stage set.number stage = cc in
    let same : 1 ≡ stage = cc in
    sym same
step-next plan s set (Some last) stage h =
    let p : (has_ended plan s set last ≡ true) × (after_stage plan s set last (next_stage plan s set last) ≡ event.Stage set.number stage) =
    then_some-some (has_ended plan s set last) (after_stage plan s set last (next_stage plan s set last)) _ h in
    (p.0, by (next_stage plan s set last) refl p.1) where
      by : (next : Option ℕ) → next_stage plan s set last ≡ next → after_stage plan s set last next ≡ event.Stage set.number stage → next_stage plan s set last ≡ Some stage
      by None is e = let f : event.CloseSet set.number (set_outcome plan s set last) ≡ event.Stage set.number stage = e in cc
      by (Some n) is e =
          let f : event.Stage set.number n ≡ event.Stage set.number stage = e in
          let same : n ≡ stage = cc in
          is ∙ ap (λ m. Some m) same

pub stage-next : (plan : Plan) (past : List Event) (set : Req) (stage : ℕ) → Has plan.requests set → may_follow plan None past (event.Stage set.number stage) ≡ true → IsNextStage plan (state plan past) set stage
unfolding may_follow is_allowed set_step
stage-next plan past set stage hs h =
    let s : State = state plan past in
    elim (came plan s None (event.Stage set.number stage) refl h) [
      | inl f ↦ step-next plan s set (facts_at s set).stage stage (forced-stage plan s set stage hs f)
      | inr a ↦ absurd (cc a.1)
    ]
