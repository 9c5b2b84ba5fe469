-- The end of a request that runs may come next.
use Rattle.std.proofs.Common.{◌≡◌, ℕ, ◌++◌, [], ◌∷◌, true, false, Bool, List, length, reverse, Option, None, Some, is_some, if◌then◌else◌, refl, sym, ◌∙◌, ap, subst, arith, inl, inr}
use Rattle.std.specs.Prelude.{nat_lt}
use Rattle.std.specs.Option.{option_and_then, option_map}
use Rattle.std.proofs.lemmas.Bool.{and_from, cond-false}
use Rattle.std.proofs.lemmas.Option.{slice_get_cases}
use Rattle.conc_types.specs.declared.event.Event.{Event}
use Rattle.conc_types.specs.declared.event.Event.TheVariants as event
use Rattle.conc_types.specs.declared.event.Extent.{Extent}
use Rattle.conc_types.specs.declared.event.Outcome.{Outcome}
use Rattle.conc_types.specs.declared.event.Outcome.TheVariants as outcome
use Rattle.conc_types.specs.declared.event.PlaceId.{PlaceId}
use Rattle.conc_types.specs.declared.event.RequestId.{RequestId}
use Rattle.conc_types.specs.declared.facts.Facts.{Facts}
use Rattle.conc_types.specs.declared.facts.State.{State}
use Rattle.conc_types.specs.declared.plan.Plan.{Plan}
use Rattle.conc_types.specs.declared.plan.Req.{Req}
use Rattle.conc_types.specs.declared.script.Reading.{Reading}
use Rattle.conc_types.specs.Plans.{request}
use Rattle.conc_types.specs.Words.{some_and}
use Rattle.conc_base_law.specs.Alone.{end_of, end_with, report_of}
use Rattle.conc_base_law.specs.Facts.{facts_of}
use Rattle.conc_base_law.specs.Kinds.{is_resume}
use Rattle.conc_base_law.specs.Law.{is_lawful, is_lawful_so_far, Lawful, may_follow}
use Rattle.conc_base_law.specs.Next.{forced, may_come, obeys}
use Rattle.conc_base_law.specs.Readings.{next_reading}
use Rattle.conc_base_law.specs.State.{facts_at, is_running, is_stopping, state, used}
use Rattle.conc_base_law.proofs.AloneLawful.{end_allowed, IsGood}
use Rattle.conc_base_law.proofs.FactsAt.{facts_at-state}
use Rattle.conc_base_law.proofs.Numbering.{found, numbered-at, numbered_plan}
use Rattle.conc_base_law.proofs.Options.{and_then-some, map-some, then_some-some}
use Rattle.conc_base_law.proofs.Positions.{reverse-push}
use Rattle.conc_base_law.proofs.Used.{used_fits}
use Rattle.conc_reports.specs.Reports.{as_report}
use Rattle.conc_reports.specs.declared.making.Made.{Made}
use Rattle.conc_board.specs.declared.board.Board.{Board}
use Rattle.conc_board.specs.declared.lead.Lead.{Lead}
use Rattle.conc_board.specs.Seats.{IsLeftFor, lead_state_of, plan_of}
use Rattle.conc_board.specs.Stops.{Collects}
use Rattle.conc_pool_seats.specs.Reports.{MayLeave}
use Rattle.conc_pool_seats.specs.LeadStates.{is_marked}
use Rattle.conc_pool_seats.specs.Words.{IsRequest, request_word}
use Rattle.conc_pool_seats.specs.declared.posted.Posted.{Posted}
use Rattle.conc_pool_seats.specs.declared.posted.Posted.TheVariants.{Text, Stopped}
use Rattle.conc_pool_seats.specs.declared.views.LeadState.{LeadState}
use Rattle.conc_run_choice.proofs.Pushes.{is_lawful-more}
use Rattle.conc_run_steps.proofs.Coming.{made-good}
use Rattle.conc_run_desk.specs.Keeping.{end_in, IsLeftIn, must_stop}
use Rattle.conc_run_desk.specs.Ties.{GoesWith, LeadStatesGoWith}

-- ---- the request that is named

pub named : (plan : Plan) (r : RequestId) → IsRequest plan r → (x : Req) × (request plan r ≡ Some x)
unfolding request
named plan r is = elim (slice_get_cases plan.requests (request_word r)).1 [
  | inl there ↦ (there.0, numbered-at plan.requests r.number (request_word r) (omega (arith, is.from_one)) ∙ there.2)
  | inr past ↦ absurd (omega (arith, past.0, is.within, is.from_one))
]

-- a request whose posted report was collected ran
pub left_in : (board : Board) (plan : Plan) (past : List Event) (r : RequestId) (old new : Lead) (posted : Posted) → plan_of board ≡ plan → IsRequest plan r
    → LeadStatesGoWith plan past old → Collects r old new → IsLeftFor board old r posted → IsLeftIn plan past r posted
left_in board plan past r old new posted is one tied collects left =
    let x = named plan r one in
    let has = found plan r x.0 x.1 in
    let same : x.0.number ≡ r = ap (λ n. record { number = n }) has.0 in
    record {
      req = x.0;
      there = has.1;
      number = same;
      place = collects.place;
      marked = collects.marked;
      runs = subst (λ (z : LeadState). GoesWith z (facts_of plan past x.0)) (ap (lead_state_of old) same ∙ collects.was) (tied.each x.0 has.1);
      may_leave = subst (λ (p : Plan). MayLeave p r collects.marked posted) is (subst (λ (z : LeadState). MayLeave (plan_of board) r (is_marked z) posted) collects.was left);
    }

-- ---- an end is allowed where nothing is forced

-- the event is an end of the request
abbrev pub IsEndOf : RequestId → Event → Type 0
IsEndOf r e = (o : Outcome) × (x : Option Extent) × (event.Ended r o x ≡ e)

pub ends_it : (s : State) (plan : Plan) (x : Req) (e : Event) → (stop : Bool)
    → (if stop then Some (event.Ended x.number outcome.Terminated None) else option_and_then (λ made. option_map (end_with x made) s.used) (report_of plan x)) ≡ Some e
    → IsEndOf x.number e
ends_it s plan x e true end = (outcome.Terminated, None, cc)
ends_it s plan x e false end =
    let made = and_then-some (λ made. option_map (end_with x made) s.used) (report_of plan x) e end in
    let at = map-some (end_with x made.0) s.used e made.2 in
    (made.0.outcome, Some (record { offset = at.0; length = length made.0.text }), at.2)

module _ (plan : Plan) (past : List Event) (r : RequestId) (posted : Posted) (e : Event) (left : IsLeftIn plan past r posted) (end : end_in plan past r ≡ Some e) where
  end_is : end_of plan (state plan past) left.req ≡ Some e
  end_is = sym (ap (option_and_then (end_of plan (state plan past))) (ap (request plan) (sym left.number) ∙ numbered_plan plan left.req left.there)) ∙ end

  pub is_its_end : IsEndOf r e
  is_its_end = subst (λ (z : RequestId). IsEndOf z e) left.number (ends_it (state plan past) plan left.req e (is_stopping (facts_at (state plan past) left.req)) end_is)

-- the list with the end behind it is lawful
pub end_lawful : (plan : Plan) (readings : List Reading) (list : List Event) (r : RequestId) (posted : Posted) (e : Event) → Lawful plan readings list
    → forced plan (state plan (reverse list)) ≡ None → IsLeftIn plan (reverse list) r posted → end_in plan (reverse list) r ≡ Some e → Lawful plan readings (list ++ e ∷ [])
unfolding may_follow may_come
end_lawful plan readings list r posted e lawful calm left end =
    let past = reverse list in
    let s = state plan past in
    let next = Some (next_reading readings past) in
    let x = left.req in
    let facts = facts_at-state plan past x left.there in
    let runs : is_running (facts_at s x) ≡ true = ap (λ (f : Facts). is_running f) facts ∙ ap (λ (o : Option PlaceId). is_some o) left.runs.place_is in
    let may = ap (obeys plan s next e) calm ∙ end_allowed plan s next x e left.there runs (is_stopping (facts_at s x)) refl (end_is plan past r posted e left end) in
    let its = is_its_end plan past r posted e left end in
    let none : is_resume e ≡ false = subst (λ d. is_resume d ≡ false) its.2 refl in
    ap (is_lawful plan readings) (reverse-push list e) ∙ is_lawful-more plan readings past e none lawful (cond-false (is_resume e) _ _ none ∙ may)

-- ---- what was left, by whether the request has to stop

module _ (plan : Plan) (past : List Event) (r : RequestId) (posted : Posted) (left : IsLeftIn plan past r posted) where
  its_request : request plan r ≡ Some left.req
  its_request = ap (request plan) (sym left.number) ∙ numbered_plan plan left.req left.there

  pub is_there : request plan r ≡ None → ⊥
  is_there none = let never : Some left.req ≡ None = sym its_request ∙ none in cc

  -- a stop of it won only where it has to stop
  pub stopped : posted ≡ Stopped → must_stop plan past r ≡ false → ⊥
  stopped is goes =
      let facts = facts_at-state plan past left.req left.there in
      let told : left.marked ≡ true = subst (λ (p : Posted). MayLeave plan r left.marked p) is left.may_leave in
      let stop : is_stopping (facts_of plan past left.req) ≡ true = and_from _ _ (ap (λ (o : Option PlaceId). is_some o) left.runs.place_is) (left.runs.terminated told) in
      let never : true ≡ false =
      sym stop ∙ sym (ap (λ (f : Facts). is_stopping f) facts) ∙ sym (ap (some_and (λ q. is_stopping (facts_at (state plan past) q))) its_request) ∙ goes in
      cc

  its_report : (made : Made) → posted ≡ Text made → report_of plan left.req ≡ Some (as_report made)
  its_report made is =
      sym (ap (option_and_then (report_of plan)) its_request) ∙ subst (λ (p : Posted). MayLeave plan r left.marked p) is left.may_leave

  pub its_good : (made : Made) → posted ≡ Text made → IsGood (as_report made)
  its_good made is = made-good plan left.req (as_report made) (its_report made is)

  module _ (made : Made) (x : Req) (is : posted ≡ Text made) (named : request plan r ≡ Some x) where
    same : left.req ≡ x
    same = let both : Some left.req ≡ Some x = sym its_request ∙ named in cc

    pub report_is : report_of plan x ≡ Some (as_report made)
    report_is = ap (report_of plan) (sym same) ∙ its_report made is

    pub found_by_number : request plan x.number ≡ Some x
    found_by_number = ap (λ (q : Req). request plan q.number) (sym same) ∙ numbered_plan plan left.req left.there ∙ ap (λ q. Some q) same

    -- the end with the report that was left
    pub reported_is : (offset : ℕ) (e : Event) → must_stop plan past r ≡ false → is_lawful_so_far plan past ≡ true → offset ≡ used past → e ≡ end_with x (as_report made) offset
        → end_in plan past r ≡ Some e
    unfolding state
    reported_is offset e goes lawful at end =
        let s = state plan past in
        let going : is_stopping (facts_at s x) ≡ false = sym (ap (some_and (λ q. is_stopping (facts_at s q))) named) ∙ goes in
        let fits = used_fits plan past lawful in
        let all : s.used ≡ Some offset =
        fits.1 ∙ ap (λ n. Some n) (sym (then_some-some (nat_lt (used past) 18446744073709551616) (used past) fits.0 fits.1).1 ∙ sym at) in
        ap (option_and_then (end_of plan s)) named
        ∙ cond-false (is_stopping (facts_at s x)) (Some (event.Ended x.number outcome.Terminated None)) (option_and_then (λ made. option_map (end_with x made) s.used) (report_of plan x)) going
        ∙ ap (option_and_then (λ made. option_map (end_with x made) s.used)) report_is
        ∙ ap (option_map (end_with x (as_report made))) all
        ∙ ap (λ d. Some d) (sym end)
