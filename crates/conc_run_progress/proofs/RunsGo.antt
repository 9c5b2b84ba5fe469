-- What runs has the go, from one event to the next and between them.
use Rattle.std.proofs.Common.{◌≡◌, ◌||◌, Bool, true, false, List, [], ◌∷◌, Option, None, Some, if◌then◌else◌, refl, sym, ◌∙◌, ap, subst, inl, inr}
use mathlib.Core.Logic.{dite}
use native.Mathlib.Decide.{ℕ_discrete}
use Rattle.std.specs.Bool.{then_some}
use Rattle.std.specs.Option.{option_or}
use Rattle.std.proofs.lemmas.Bool.{both_ways, cases_Bool, cond-false, or_cases, or_parts}
use Rattle.conc_types.specs.declared.event.Event.{Event}
use Rattle.conc_types.specs.declared.event.Event.TheVariants as event
use Rattle.conc_types.specs.declared.event.PlaceId.{PlaceId}
use Rattle.conc_types.specs.declared.event.RequestId.{RequestId}
use Rattle.conc_types.specs.declared.plan.Plan.{Plan}
use Rattle.conc_types.specs.declared.plan.Req.{Req}
use Rattle.conc_types.specs.declared.script.Act.{Act}
use Rattle.conc_types.specs.declared.script.Act.TheVariants as act
use Rattle.conc_types.specs.Words.{some_and}
use Rattle.conc_base_law.specs.Before.{last_life, latest_since, occurs}
use Rattle.conc_base_law.specs.Facts.{facts_of, running_place, was_started}
use Rattle.conc_base_law.specs.Kinds.{act_of, ends, ends_run, interrupts, is_resume, start_place, starts}
use Rattle.conc_base_law.specs.Words.{Has, id_eq}
use Rattle.conc_base_law.proofs.EqualEvents.{eqb-refl, id_same}
use Rattle.conc_base_law.proofs.RunningPlace.{running_place-more}
use Rattle.conc_board.specs.declared.lead.Lead.{Lead}
use Rattle.conc_board.specs.Seats.{SameLeadStates, lead_state_of}
use Rattle.conc_pool_seats.specs.declared.views.LeadState.{LeadState}
use Rattle.conc_pool_seats.specs.declared.views.LeadState.TheVariants.{Gone}
use Rattle.conc_pool_seats.proofs.Facts.{request_eq}
use Rattle.conc_run_desk.specs.Following.{Follows, LeadStateAfter, LeadStateAfterAct, SameBut, ToldToStop, Where, Withdrawn}
use Rattle.conc_run_desk.specs.Logging.{IsItsTurn}
use Rattle.conc_run_progress.specs.Runs.{HasTheGoAt, WhatRunsHasTheGo}

-- ---- a request with the go has it after an event that does not start it

-- a request in this lead state has the go at the place, marked or not
abbrev pub IsGoneAt : PlaceId → LeadState → Type 0
IsGoneAt p st = (marked : Bool) × (st ≡ Gone p marked)

-- the lead state that it was in
same_go : (p : PlaceId) (m : Bool) (st st' : LeadState) → st ≡ Gone p m → st' ≡ st → IsGoneAt p st'
same_go p m st st' was same = (m, same ∙ was)

withdrawn_go : (p : PlaceId) (m : Bool) (st st' : LeadState) → st ≡ Gone p m → Withdrawn st st' → IsGoneAt p st'
withdrawn_go p m st st' was h = (m, subst (λ (z : LeadState). Withdrawn z st') was h)

stopped_go : (p : PlaceId) (m : Bool) (st st' : LeadState) → st ≡ Gone p m → ToldToStop st st' → IsGoneAt p st'
stopped_go p m st st' was h = let t : (won : Bool) × (st' ≡ Gone p (won || m)) = subst (λ (z : LeadState). ToldToStop z st') was h in (t.0 || m, t.1)

where_go : (b : Bool) (One : Type 0) (p : PlaceId) (m : Bool) (st st' : LeadState) → st ≡ Gone p m → (One → IsGoneAt p st') → Where b One (st' ≡ st) → IsGoneAt p st'
where_go true One p m st st' was one h = one h
where_go false One p m st st' was one h = same_go p m st st' was h

act_go : (a : Option Act) (r : RequestId) (p : PlaceId) (m : Bool) (st st' : LeadState) → st ≡ Gone p m → LeadStateAfterAct a r st st' → IsGoneAt p st'
act_go None r p m st st' was h = same_go p m st st' was h
act_go (Some (act.Hold q)) r p m st st' was h = where_go (id_eq q r) (Withdrawn st st') p m st st' was (withdrawn_go p m st st' was) h
act_go (Some (act.Cancel q)) r p m st st' was h = where_go (id_eq q r) (Withdrawn st st') p m st st' was (withdrawn_go p m st st' was) h
act_go (Some (act.Terminate q)) r p m st st' was h = where_go (id_eq q r) (ToldToStop st st') p m st st' was (stopped_go p m st st' was) h
act_go (Some (act.Unhold q)) r p m st st' was h = same_go p m st st' was h
act_go (Some (act.Submit i u k t d g)) r p m st st' was h = same_go p m st st' was h

-- after an event that does not start it
stays_go : (plan : Plan) (e : Event) (r : RequestId) (p : PlaceId) (m : Bool) (st st' : LeadState) → st ≡ Gone p m → starts r e ≡ false → LeadStateAfter plan e r st st' → IsGoneAt p st'
unfolding act_of
stays_go plan (event.Started q u) r p m st st' was other h = same_go p m st st' was (subst (λ b. Where b (st' ≡ Gone u false) (st' ≡ st)) other h)
stays_go plan (event.Command n) r p m st st' was other h = act_go (act_of plan (event.Command n)) r p m st st' was h
stays_go plan (event.Tick t) r p m st st' was other h = same_go p m st st' was h
stays_go plan (event.OpenSet q) r p m st st' was other h = same_go p m st st' was h
stays_go plan (event.Stage q k) r p m st st' was other h = same_go p m st st' was h
stays_go plan (event.CloseSet q o) r p m st st' was other h = same_go p m st st' was h
stays_go plan (event.LetOut q) r p m st st' was other h = same_go p m st st' was h
stays_go plan (event.Ended q o x) r p m st st' was other h = same_go p m st st' was h
stays_go plan event.Resume r p m st st' was other h = same_go p m st st' was h
stays_go plan (event.Interrupt q) r p m st st' was other h = same_go p m st st' was h

-- a start gives the go
start_go : (plan : Plan) (r : RequestId) (p : PlaceId) (st st' : LeadState) → LeadStateAfter plan (event.Started r p) r st st' → IsGoneAt p st'
start_go plan r p st st' h = (false, subst (λ b. Where b (st' ≡ Gone p false) (st' ≡ st)) (eqb-refl r.number) h)

-- ---- starts

-- an event that starts the request is the start at the place where it runs then
pub start_there : (past : List Event) (e : Event) (r : RequestId) → starts r e ≡ true → (u : PlaceId) × (e ≡ event.Started r u) × (running_place (e ∷ past) r ≡ Some u)
unfolding running_place
start_there past (event.Started q u) r h =
    (u, ap (λ z. event.Started z u) (id_same q r h), ap (λ b. option_or (then_some b u) (if ends_run r (event.Started q u) then None else latest_since (start_place r) (ends_run r) past)) h)
start_there past _ r h = cc

-- what was started, and not by this event, was so before
pub started_before : (past : List Event) (e : Event) (r : RequestId) → is_resume e ≡ false → starts r e ≡ false → was_started (e ∷ past) r ≡ true → was_started past r ≡ true
unfolding was_started last_life
started_before past e r no_resume no_start was =
    let all : (starts r e || occurs (starts r) (last_life past)) ≡ true = sym (ap (occurs (starts r)) (cond-false (is_resume e) [] (e ∷ last_life past) no_resume)) ∙ was in
    elim (or_cases (starts r e) _ all) [
      | inl now ↦ absurd (both_ways (starts r e) no_start now)
      | inr before ↦ before
    ]

-- ---- one more event

-- an event whose turn it is ends a request only where that end is kept
kept_ends : (kept : Option Event) (e : Event) (r : RequestId) → IsItsTurn kept e → ends r e ≡ false → some_and (ends r) kept ≡ false
kept_ends None e r turn no_end = refl
kept_ends (Some k) e r turn no_end = sym (ap (ends r) turn) ∙ no_end

module _ (plan : Plan) (past : List Event) (kept : Option Event) (e : Event) (old new : Lead) (no_resume : is_resume e ≡ false) (turn : IsItsTurn kept e)
    (runs : WhatRunsHasTheGo plan past kept old) (follows : Follows plan e old new) where
  started_go : (r : Req) (p : PlaceId) → running_place (e ∷ past) r.number ≡ Some p → starts r.number e ≡ true → HasTheGoAt new r.number p
  started_go r p place start =
      let t = start_there past e r.number start in
      let both : Some t.0 ≡ Some p = sym t.2 ∙ place in
      let same : t.0 ≡ p = cc in
      let is : e ≡ event.Started r.number p = t.1 ∙ ap (λ z. event.Started r.number z) same in
      start_go plan r.number p (lead_state_of old r.number) (lead_state_of new r.number)
      (subst (λ (d : Event). LeadStateAfter plan d r.number (lead_state_of old r.number) (lead_state_of new r.number)) is (follows.lead_states r.number))

  on_go : (r : Req) (p : PlaceId) → Has plan.requests r → starts r.number e ≡ false → running_place (e ∷ past) r.number ≡ Some p → was_started (e ∷ past) r.number ≡ true → HasTheGoAt new r.number p
  unfolding facts_of
  on_go r p hr other place started = elim (running_place-more past e r.number p place) [
    | inl start ↦ absurd (both_ways (starts r.number e) other (ap (starts r.number) start ∙ eqb-refl r.number.number))
    | inr on ↦
        let was : HasTheGoAt old r.number p =
        runs.each r p hr on.1 (started_before past e r.number no_resume other started) (kept_ends kept e r.number turn (or_parts (ends r.number e) (interrupts r.number e) on.0).0) in
        stays_go plan e r.number p was.0 (lead_state_of old r.number) (lead_state_of new r.number) was.1 other (follows.lead_states r.number)
  ]

  pub runs_after : WhatRunsHasTheGo plan (e ∷ past) None new
  unfolding facts_of
  runs_after = record {
    each = λ r p hr place started none_kept. elim (cases_Bool (starts r.number e)) [
      | inl start ↦ started_go r p place start
      | inr other ↦ on_go r p hr other place started
    ];
  }

-- ---- between two events

pub runs_first : (plan : Plan) (past : List Event) (kept : Option Event) (lead : Lead) → last_life past ≡ [] → WhatRunsHasTheGo plan past kept lead
unfolding facts_of was_started
runs_first plan past kept lead new = record {
  each = λ r p hr place started none_kept. absurd (both_ways (occurs (starts r.number) (last_life past)) (ap (occurs (starts r.number)) new) started);
}

-- what a call on one request leaves to the others
other_request : (r q : RequestId) (e : Event) → ends r e ≡ true → ends q e ≡ false → q ≡ r → ⊥
other_request r q e one other same = both_ways (ends q e) other (ap (λ z. ends z e) same ∙ one)

module _ (plan : Plan) (past : List Event) (old new : Lead) where
  pub runs_called : (kept : Option Event) (r : RequestId) → SameBut r old new → ((p : PlaceId) → HasTheGoAt old r p → HasTheGoAt new r p) → WhatRunsHasTheGo plan past kept old → WhatRunsHasTheGo plan past kept new
  runs_called kept r same stays runs = record {
    each = λ q p hq place started none_kept. let was : HasTheGoAt old q.number p = runs.each q p hq place started none_kept in
        dite (ℕ_discrete q.number.number r.number)
        (λ e. let is : q.number ≡ r = request_eq q.number r e in subst (λ z. HasTheGoAt new z p) (sym is) (stays p (subst (λ z. HasTheGoAt old z p) is was)))
        (λ other. (was.0, same.lead_states q.number (λ e. other (ap (λ z. z.number) e)) ∙ was.1));
  }

  pub runs_same : (kept : Option Event) → SameLeadStates old new → WhatRunsHasTheGo plan past kept old → WhatRunsHasTheGo plan past kept new
  runs_same kept same runs = record {
    each = λ q p hq place started none_kept. let was : HasTheGoAt old q.number p = runs.each q p hq place started none_kept in (was.0, same.each q.number ∙ was.1);
  }

  pub runs_kept : (r : RequestId) (e : Event) → SameBut r old new → ends r e ≡ true → WhatRunsHasTheGo plan past None old → WhatRunsHasTheGo plan past (Some e) new
  runs_kept r e same one runs = record {
    each = λ q p hq place started other. let was : HasTheGoAt old q.number p = runs.each q p hq place started refl in
        (was.0, same.lead_states q.number (other_request r q.number e one other) ∙ was.1);
  }
