-- After an event and what it means for the board, each lead state goes with the facts.
use Rattle.std.proofs.Common.{◌≡◌, ℕ, Bool, true, false, List, ◌∷◌, Option, None, Some, refl, sym, ◌∙◌, ap, subst, inl, inr}
use Rattle.std.proofs.lemmas.Bool.{and_left, or_from}
use Rattle.conc_types.specs.declared.event.Event.{Event}
use Rattle.conc_types.specs.declared.event.Event.TheVariants as event
use Rattle.conc_types.specs.declared.event.PlaceId.{PlaceId}
use Rattle.conc_types.specs.declared.event.RequestId.{RequestId}
use Rattle.conc_types.specs.declared.plan.Plan.{Plan}
use Rattle.conc_types.specs.declared.plan.Req.{Req}
use Rattle.conc_types.specs.declared.script.Act.{Act}
use Rattle.conc_types.specs.declared.script.Act.TheVariants as act
use Rattle.conc_types.specs.declared.script.Reading.{Reading}
use Rattle.conc_types.specs.Words.{some_and}
use Rattle.conc_base_law.specs.Facts.{cancels, completion, facts_of, holds, is_idle, unlets}
use Rattle.conc_base_law.specs.Kinds.{act_of, ends, interrupts, is_cancel, is_hold, is_resume, is_terminate, starts, ends_run}
use Rattle.conc_base_law.specs.Law.{may_follow}
use Rattle.conc_base_law.specs.Words.{Has, id_eq}
use Rattle.conc_base_law.proofs.EqualEvents.{id_same}
use Rattle.conc_pool_seats.specs.declared.views.LeadState.{LeadState}
use Rattle.conc_pool_seats.specs.declared.views.LeadState.TheVariants.{NotLet, Let, Seen, Gone, Got, Done}
use Rattle.conc_pool_seats.specs.LeadStates.{IsGone, IsLet, IsSettled}
use Rattle.conc_board.specs.declared.lead.Lead.{Lead}
use Rattle.conc_board.specs.Seats.{lead_state_of}
use Rattle.conc_run_desk.specs.Following.{Follows, LeadStateAfter, LeadStateAfterAct, Withdrawn, ToldToStop, Where}
use Rattle.conc_run_desk.specs.Ties.{GoesWith, LeadStatesGoWith, RunsAt, WaitsToStart}
use Rattle.conc_run_desk.proofs.Ties.{done_on, runs_not_interrupted, runs_not_started, runs_on, starts_to_run, terminated_now, waits_not_stopped, waits_on}

module _ (plan : Plan) (readings : Option (List Reading)) (past : List Event) (e : Event) (r : Req) (hr : Has plan.requests r)
    (may : may_follow plan readings past e ≡ true) (no_resume : is_resume e ≡ false) where
  -- the event neither holds nor cancels the request
  abbrev LeavesLet : Type 0
  LeavesLet = (some_and (is_hold r.number) (act_of plan e) ≡ false) × (some_and (is_cancel r.number) (act_of plan e) ≡ false)

  let_on : starts r.number e ≡ false → LeavesLet → WaitsToStart (facts_of plan past r) → WaitsToStart (facts_of plan (e ∷ past) r)
  unfolding unlets holds cancels
  let_on no_start leaves waits =
      let no_stop = waits_not_stopped plan readings past r hr e may waits in
      let idle : Bool = is_idle past (completion plan past) r in
      waits_on plan past e r no_start
      (or_from (ends_run r.number e) _ no_stop (or_from _ _ (and_left _ idle leaves.0) (and_left _ idle leaves.1))) waits

  not_interrupted : (d : Event) → may_follow plan readings past d ≡ true → (facts_of plan past r).started ≡ true → interrupts r.number d ≡ false
  not_interrupted (event.Interrupt q) m was = runs_not_interrupted plan readings past r hr q m was
  not_interrupted _ m was = refl

  pub gone_on : (p : PlaceId) (marked : Bool) → ends r.number e ≡ false → RunsAt p marked (facts_of plan past r) → RunsAt p marked (facts_of plan (e ∷ past) r)
  gone_on p marked no_end at =
      runs_on plan past e r p marked (runs_not_started plan readings past r hr e p marked may at)
      (or_from (ends r.number e) _ no_end (not_interrupted e may at.started)) no_resume at

  -- a lead state that stays goes with the facts still
  same_on : (st : LeadState) → GoesWith st (facts_of plan past r) → (IsLet st → starts r.number e ≡ false) → (IsLet st → LeavesLet)
      → (IsGone st → ends r.number e ≡ false) → IsSettled st → GoesWith st (facts_of plan (e ∷ past) r)
  same_on NotLet goes no_start leaves no_end calm = tt
  same_on Let goes no_start leaves no_end calm = let_on (no_start tt) (leaves tt) goes
  same_on (Seen p) goes no_start leaves no_end calm = let_on (no_start tt) (leaves tt) goes
  same_on (Gone p m) goes no_start leaves no_end calm = gone_on p m (no_end tt) goes
  same_on (Got p m) goes no_start leaves no_end calm = absurd calm
  same_on (Done m) goes no_start leaves no_end calm = done_on plan past e r no_resume goes

-- ---- by the event

module _ (plan : Plan) (readings : Option (List Reading)) (past : List Event) (r : Req) (hr : Has plan.requests r) where
  -- after a command
  module _ (n : ℕ) (may : may_follow plan readings past (event.Command n) ≡ true) where
    abbrev e : Event
    e = event.Command n

    quiet : (st st' : LeadState) → GoesWith st (facts_of plan past r) → IsSettled st → st' ≡ st → (IsLet st → LeavesLet plan readings past e r hr may refl)
        → GoesWith st' (facts_of plan (e ∷ past) r)
    quiet st st' goes calm same leaves =
        subst (λ (z : LeadState). GoesWith z (facts_of plan (e ∷ past) r)) (sym same)
        (same_on plan readings past e r hr may refl st goes (λ _. refl) leaves (λ _. refl) calm)

    withdrawn : (st st' : LeadState) → GoesWith st (facts_of plan past r) → IsSettled st → Withdrawn st st' → GoesWith st' (facts_of plan (e ∷ past) r)
    withdrawn Let st' goes calm back = subst (λ (z : LeadState). GoesWith z (facts_of plan (e ∷ past) r)) (sym back) tt
    withdrawn (Seen p) st' goes calm back = subst (λ (z : LeadState). GoesWith z (facts_of plan (e ∷ past) r)) (sym back) tt
    withdrawn NotLet st' goes calm same = quiet NotLet st' goes calm same (λ x. absurd x)
    withdrawn (Gone p m) st' goes calm same = quiet (Gone p m) st' goes calm same (λ x. absurd x)
    withdrawn (Got p m) st' goes calm same = absurd calm
    withdrawn (Done m) st' goes calm same = quiet (Done m) st' goes calm same (λ x. absurd x)

    -- a stop marks only what the terminate of this command terminated
    told_to_stop : (st st' : LeadState) → some_and (is_terminate r.number) (act_of plan e) ≡ true → (IsLet st → LeavesLet plan readings past e r hr may refl)
        → GoesWith st (facts_of plan past r) → IsSettled st → ToldToStop st st' → GoesWith st' (facts_of plan (e ∷ past) r)
    told_to_stop NotLet st' is leaves goes calm same = quiet NotLet st' goes calm same leaves
    told_to_stop Let st' is leaves goes calm (inl same) = quiet Let st' goes calm same leaves
    told_to_stop Let st' is leaves goes calm (inr (p, seen)) = quiet (Seen p) st' goes tt seen leaves
    told_to_stop (Seen p) st' is leaves goes calm same = quiet (Seen p) st' goes calm same leaves
    told_to_stop (Gone p m) st' is leaves goes calm (won, now) =
        let at : RunsAt p m (facts_of plan (e ∷ past) r) = gone_on plan readings past e r hr may refl p m refl goes in
        let stopping = terminated_now plan past e r p is (record { place_is = goes.place_is; started = goes.started; terminated = λ f. cc }) in
        subst (λ (z : LeadState). GoesWith z (facts_of plan (e ∷ past) r)) (sym now) (record { place_is = at.place_is; started = at.started; terminated = λ _. stopping })
    told_to_stop (Got p m) st' is leaves goes calm same = absurd calm
    told_to_stop (Done m) st' is leaves goes calm same = quiet (Done m) st' goes calm same leaves

    -- what an act on another request, or an act that holds and cancels none, leaves let
    module _ (st st' : LeadState) (goes : GoesWith st (facts_of plan past r)) (calm : IsSettled st) where
      by_act : (a : Option Act) → act_of plan e ≡ a → LeadStateAfterAct a r.number st st' → GoesWith st' (facts_of plan (e ∷ past) r)
      by_act None is same = quiet st st' goes calm same (λ _. (ap (some_and (is_hold r.number)) is, ap (some_and (is_cancel r.number)) is))
      by_act (Some (act.Hold q)) is after = where_hold (id_eq q r.number) refl after
        where
          where_hold : (b : Bool) → id_eq q r.number ≡ b → Where b (Withdrawn st st') (st' ≡ st) → GoesWith st' (facts_of plan (e ∷ past) r)
          where_hold true h back = withdrawn st st' goes calm back
          where_hold false h same = quiet st st' goes calm same (λ _. (ap (some_and (is_hold r.number)) is ∙ h, ap (some_and (is_cancel r.number)) is))
      by_act (Some (act.Cancel q)) is after = where_cancel (id_eq q r.number) refl after
        where
          where_cancel : (b : Bool) → id_eq q r.number ≡ b → Where b (Withdrawn st st') (st' ≡ st) → GoesWith st' (facts_of plan (e ∷ past) r)
          where_cancel true h back = withdrawn st st' goes calm back
          where_cancel false h same = quiet st st' goes calm same (λ _. (ap (some_and (is_hold r.number)) is, ap (some_and (is_cancel r.number)) is ∙ h))
      by_act (Some (act.Terminate q)) is after = where_stop (id_eq q r.number) refl after
        where
          leaves : IsLet st → LeavesLet plan readings past e r hr may refl
          leaves _ = (ap (some_and (is_hold r.number)) is, ap (some_and (is_cancel r.number)) is)

          where_stop : (b : Bool) → id_eq q r.number ≡ b → Where b (ToldToStop st st') (st' ≡ st) → GoesWith st' (facts_of plan (e ∷ past) r)
          where_stop true h told = told_to_stop st st' (ap (some_and (is_terminate r.number)) is ∙ h) leaves goes calm told
          where_stop false h same = quiet st st' goes calm same leaves
      by_act (Some (act.Unhold q)) is same = quiet st st' goes calm same (λ _. (ap (some_and (is_hold r.number)) is, ap (some_and (is_cancel r.number)) is))
      by_act (Some (act.Submit i u p t d g)) is same = quiet st st' goes calm same (λ _. (ap (some_and (is_hold r.number)) is, ap (some_and (is_cancel r.number)) is))

  -- after any event
  module _ (st st' : LeadState) (goes : GoesWith st (facts_of plan past r)) (calm : IsSettled st) where
    -- the lead state stays
    stays : (e : Event) (may : may_follow plan readings past e ≡ true) (no_resume : is_resume e ≡ false) → st' ≡ st → (IsLet st → starts r.number e ≡ false)
        → act_of plan e ≡ None → (IsGone st → ends r.number e ≡ false) → GoesWith st' (facts_of plan (e ∷ past) r)
    stays e may no_resume same no_start no_act no_end =
        subst (λ (z : LeadState). GoesWith z (facts_of plan (e ∷ past) r)) (sym same)
        (same_on plan readings past e r hr may no_resume st goes no_start (λ _. (ap (some_and (is_hold r.number)) no_act, ap (some_and (is_cancel r.number)) no_act)) no_end calm)

    pub goes_after : (e : Event) → may_follow plan readings past e ≡ true → is_resume e ≡ false → (IsGone st → ends r.number e ≡ false)
        → LeadStateAfter plan e r.number st st' → GoesWith st' (facts_of plan (e ∷ past) r)
    unfolding act_of
    goes_after (event.Started q p) may no_resume no_end after = where_start (id_eq q r.number) refl after
      where
        where_start : (b : Bool) → id_eq q r.number ≡ b → Where b (st' ≡ Gone p false) (st' ≡ st) → GoesWith st' (facts_of plan (event.Started q p ∷ past) r)
        where_start true h gone =
            subst (λ (z : LeadState). GoesWith z (facts_of plan (event.Started q p ∷ past) r)) (sym gone)
            (subst (λ (z : RequestId). RunsAt p false (facts_of plan (event.Started z p ∷ past) r)) (sym (id_same q r.number h)) (starts_to_run plan past r p))
        where_start false h same = stays (event.Started q p) may no_resume same (λ _. h) refl no_end
    goes_after (event.Command n) may no_resume no_end after = by_act n may st st' goes calm (act_of plan (event.Command n)) refl after
    goes_after (event.Tick t) may no_resume no_end same = stays (event.Tick t) may no_resume same (λ _. refl) refl no_end
    goes_after (event.OpenSet s) may no_resume no_end same = stays (event.OpenSet s) may no_resume same (λ _. refl) refl no_end
    goes_after (event.Stage s k) may no_resume no_end same = stays (event.Stage s k) may no_resume same (λ _. refl) refl no_end
    goes_after (event.CloseSet s o) may no_resume no_end same = stays (event.CloseSet s o) may no_resume same (λ _. refl) refl no_end
    goes_after (event.LetOut q) may no_resume no_end same = stays (event.LetOut q) may no_resume same (λ _. refl) refl no_end
    goes_after (event.Ended q o x) may no_resume no_end same = stays (event.Ended q o x) may no_resume same (λ _. refl) refl no_end
    goes_after event.Resume may no_resume no_end same = cc
    goes_after (event.Interrupt q) may no_resume no_end same = stays (event.Interrupt q) may no_resume same (λ _. refl) refl no_end

-- the lead's view and the list go together after an event and what it means for the board, where an end is that of a
-- request which has no go
pub tied_after : (plan : Plan) (readings : Option (List Reading)) (past : List Event) (e : Event) (old new : Lead) → may_follow plan readings past e ≡ true → is_resume e ≡ false
    → ((r : RequestId) → IsSettled (lead_state_of old r)) → ((r : RequestId) → IsGone (lead_state_of old r) → ends r e ≡ false)
    → LeadStatesGoWith plan past old → Follows plan e old new → LeadStatesGoWith plan (e ∷ past) new
tied_after plan readings past e old new may no_resume calm no_end tied follows = record {
  each = λ r hr. goes_after plan readings past r hr (lead_state_of old r.number) (lead_state_of new r.number) (tied.each r hr) (calm r.number) e may no_resume (no_end r.number) (follows.lead_states r.number);
}
