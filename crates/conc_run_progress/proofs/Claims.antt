-- What comes of a claim, where nothing is forced and nothing runs.
use Rattle.std.proofs.Common.{◌≡◌, ◌==◌, ℕ, Bool, true, false, List, Option, None, Some, is_some, reverse, sym, refl, ap, ◌∙◌, subst, inl, inr, arith}
use Rattle.std.specs.Option.{option_map}
use Rattle.std.proofs.lemmas.Bool.{not_from_false}
use Rattle.conc_types.specs.declared.event.Event.{Event}
use Rattle.conc_types.specs.declared.event.PlaceId.{PlaceId}
use Rattle.conc_types.specs.declared.facts.Facts.{Facts}
use Rattle.conc_types.specs.declared.manager.Manager.{Manager}
use Rattle.conc_types.specs.declared.plan.Plan.{Plan}
use Rattle.conc_types.specs.declared.plan.Req.{Req}
use Rattle.conc_types.specs.declared.script.Readings.{Readings}
use Rattle.conc_types.specs.Words.{some_and}
use Rattle.conc_base_law.specs.Facts.{facts_of}
use Rattle.conc_base_law.specs.Managers.{admits}
use Rattle.conc_base_law.specs.Next.{forced, is_vacant, runs_at}
use Rattle.conc_base_law.specs.Places.{Place, place_of}
use Rattle.conc_base_law.specs.State.{facts_at, is_running, state}
use Rattle.conc_base_law.specs.Words.{Has}
use Rattle.conc_base_law.proofs.FactsAt.{facts_at-state}
use Rattle.conc_base_law.proofs.FirstBy.{none_any}
use Rattle.conc_base_law.proofs.Numbering.{numbered_plan}
use Rattle.conc_board.specs.Admission.{IsAdmitted, admits_at}
use Rattle.conc_board.specs.Owners.{manager_at}
use Rattle.conc_board.specs.Seats.{lead_state_of}
use Rattle.conc_board.specs.declared.lead.Lead.{Lead}
use Rattle.conc_pool_seats.specs.Rule.{BoardState, Fits}
use Rattle.conc_pool_seats.specs.Words.{IsPlace, IsRequest, claimed}
use Rattle.conc_pool_seats.specs.declared.views.Doing.{Doing}
use Rattle.conc_pool_seats.specs.declared.views.Doing.TheVariants.{Waits}
use Rattle.conc_pool_seats.specs.declared.views.LeadState.{LeadState}
use Rattle.conc_pool_seats.specs.declared.views.LeadState.TheVariants.{NotLet, Let, Seen, Gone, Got, Done}
use Rattle.conc_pool_seats.proofs.Facts.{place_eq}
use Rattle.conc_run_desk.specs.Ties.{GoesWith, WaitsToStart}
use Rattle.conc_run_progress.specs.Boards.{doing_in, is_usable_after, slot_of, word_of}
use Rattle.conc_run_progress.specs.LeadMoves.{HasAnswer, LeadMove, answers, sees}
use Rattle.conc_run_progress.specs.Progress.{IsGoingOn}
use Rattle.conc_run_progress.proofs.Board.{at_place, end_no_claim, few, fits_as, run_no_claim}
use Rattle.conc_run_progress.proofs.Comes.{start_lawful}

-- ---- what the manager of a place admits

-- of a request that the plan has under its number
pub admits-at : (plan : Plan) (p : PlaceId) (x : Req) → Has plan.requests x → admits_at plan p x.number ≡ some_and (λ (z : Place). admits z.manager x) (place_of plan p)
admits-at plan p x hx =
    ap (λ (o : Option Req). some_and (λ (m : Manager). some_and (admits m) o) (manager_at plan p)) (numbered_plan plan x hx) ∙ by (place_of plan p) where
      by : (o : Option Place) → some_and (λ (m : Manager). admits m x) (option_map (λ (z : Place). z.manager) o) ≡ some_and (λ (z : Place). admits z.manager x) o
      by None = refl
      by (Some z) = refl

-- ---- nothing runs

-- no request runs in this list
abbrev pub NoneRuns : Plan → List Event → Type 0
NoneRuns plan past = (y : Req) → Has plan.requests y → (facts_of plan past y).place ≡ None

-- so each place is vacant
pub vacant : (plan : Plan) (past : List Event) (p : PlaceId) → NoneRuns plan past → is_vacant plan (state plan past) p ≡ true
unfolding is_vacant runs_at
vacant plan past p none =
    not_from_false _ (none_any (λ (y : Req). some_and (λ (q : PlaceId). q.index == p.index) (facts_at (state plan past) y).place) plan.requests
    (λ y hy. ap (some_and (λ (q : PlaceId). q.index == p.index)) (ap (λ (f : Facts). f.place) (facts_at-state plan past y hy) ∙ none y hy)))

module _ (plan : Plan) (readings : Readings) (list : List Event) (lead : Lead) (s : BoardState) (going : IsGoingOn plan readings list None lead s)
    (calm : forced plan (state plan (reverse list)) ≡ None) (none : NoneRuns plan (reverse list)) where
  -- the answer to a hand that waits for a request which waits to start: a start, where the place may be used
  answer_of : (y : Req) (p : PlaceId) (j : ℕ) → Has plan.requests y → WaitsToStart (facts_of plan (reverse list) y) → doing_in s j ≡ Waits y.number p
      → HasAnswer plan readings.list list None y.number p
  unfolding state
  answer_of y p j hy waits does = by (is_usable_after plan (reverse list) p) refl where
    past : List Event
    past = reverse list

    facts : facts_at (state plan (reverse list)) y ≡ facts_of plan (reverse list) y
    facts = facts_at-state plan (reverse list) y hy

    admitted : admits_at plan p y.number ≡ true
    admitted = subst (λ (d : Doing). IsAdmitted plan d) does (going.crew.admitted j)

    by : (b : Bool) → is_usable_after plan (reverse list) p ≡ b → HasAnswer plan readings.list list None y.number p
    by true usable = inl (
      start_lawful plan readings.list list y p going.lawful calm hy (record {
        let_out = ap (λ (f : Facts). f.let_out) facts ∙ waits.let_out;
        idle = ap (λ (f : Facts). is_running f) facts ∙ ap (λ (o : Option PlaceId). is_some o) waits.place;
        admitted = sym (admits-at plan p y hy) ∙ admitted;
        usable = usable;
        vacant = vacant plan (reverse list) p none;
      }),
      tt,
    )
    by false usable = inr usable

  -- a claim that was seen is answered
  pub seen_answered : (y : Req) (p : PlaceId) (j : ℕ) → Has plan.requests y → lead_state_of lead y.number ≡ Seen p → IsRequest plan y.number → word_of s y.number ≡ claimed p → doing_in s j ≡ Waits y.number p
      → LeadMove plan readings.list list None lead s
  seen_answered y p j hy seen is word does =
      let waits : WaitsToStart (facts_of plan (reverse list) y) = subst (λ (z : LeadState). GoesWith z (facts_of plan (reverse list) y)) seen (going.tied.each y hy) in
      answers (record {
        request = y.number;
        place = p;
        hand = j;
        of_plan = is;
        lead_state = seen;
        word = word;
        waits = does;
        answer = answer_of y p j hy waits does;
      })

  -- a claim that stands in the word of a request is seen, or answered
  module _ (y : Req) (p : PlaceId) (j : ℕ) (hy : Has plan.requests y) (is : IsRequest plan y.number) (near : IsPlace plan p) (word : word_of s y.number ≡ claimed p)
      (does : doing_in s j ≡ Waits y.number p) where
    claim_by : (st : LeadState) → lead_state_of lead y.number ≡ st → Fits plan (at_place plan lead s going.crew.sits) y.number st (word_of s y.number) (slot_of s y.number)
        → LeadMove plan readings.list list None lead s
    claim_by NotLet so f = absurd (let e = f.0 in omega (arith, e, word))
    claim_by Let so f = sees (record { request = y.number; place = p; of_plan = is; lead_state = so; word = word })
    claim_by (Seen q) so f =
        let e : claimed q ≡ claimed p = sym f.1 ∙ word in
        let same : q ≡ p = place_eq q p (omega (arith, e)) in
        seen_answered y p j hy (so ∙ ap Seen same) is word does
    claim_by (Gone q m) so (there, inl run) = absurd (run_no_claim m q p (few plan lead s going.crew.sits q there) (few plan lead s going.crew.sits p near) (sym run.0 ∙ word))
    claim_by (Gone q m) so (there, inr end) = absurd (end_no_claim q p (few plan lead s going.crew.sits p near) (sym end.0 ∙ word))
    claim_by (Got q m) so f = absurd (end_no_claim q p (few plan lead s going.crew.sits p near) (sym f.1 ∙ word))
    claim_by (Done m) so f = absurd (let e = f.0 in omega (arith, e, word))

    pub claim_met : LeadMove plan readings.list list None lead s
    claim_met = claim_by (lead_state_of lead y.number) refl (fits_as plan lead s going.crew.sits y.number (lead_state_of lead y.number) is refl)
