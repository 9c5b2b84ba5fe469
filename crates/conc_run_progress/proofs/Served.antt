-- What can be done for a request that runs, and for one that is let and could start.
use Rattle.std.proofs.Common.{◌≡◌, ◌≢◌, ◌⊎◌, ℕ, Bool, true, List, None, Some, reverse, sym, refl, ap, ◌∙◌, subst, inl, inr, arith}
use mathlib.Core.Logic.{dite}
use native.Mathlib.Decide.{ℕ_discrete}
use Rattle.std.specs.Prelude.{slice_index}
use Rattle.conc_types.specs.declared.event.Event.{Event}
use Rattle.conc_types.specs.declared.event.PlaceId.{PlaceId}
use Rattle.conc_types.specs.declared.event.RequestId.{RequestId}
use Rattle.conc_types.specs.declared.facts.Facts.{Facts}
use Rattle.conc_types.specs.declared.plan.Plan.{Plan}
use Rattle.conc_types.specs.declared.plan.Req.{Req}
use Rattle.conc_types.specs.declared.script.Readings.{Readings}
use Rattle.conc_base_law.specs.Facts.{facts_of}
use Rattle.conc_base_law.specs.Law.{is_lawful_so_far}
use Rattle.conc_base_law.specs.Next.{forced}
use Rattle.conc_base_law.specs.State.{state}
use Rattle.conc_base_law.specs.Words.{Has}
use Rattle.conc_base_law.proofs.FactsAt.{facts_at-state}
use Rattle.conc_base_law.proofs.LawfulSoFar.{lawful_is_lawful_so_far}
use Rattle.conc_board.specs.Seats.{lead_state_of}
use Rattle.conc_board.specs.declared.lead.Lead.{Lead}
use Rattle.conc_pool_seats.specs.Rule.{BoardState, Fits}
use Rattle.conc_pool_seats.specs.Words.{IsPlace, IsRequest, claimed, end_word, place_word, released}
use Rattle.conc_pool_seats.specs.declared.views.Doing.{Doing}
use Rattle.conc_pool_seats.specs.declared.views.Doing.TheVariants.{Idle, Waits, Serves}
use Rattle.conc_pool_seats.specs.declared.views.LeadState.{LeadState}
use Rattle.conc_pool_seats.specs.declared.views.LeadState.TheVariants.{NotLet, Let, Seen, Gone, Got, Done}
use Rattle.conc_run_desk.specs.Ties.{GoesWith, WaitsToStart}
use Rattle.conc_run_desk.proofs.Apart.{apart}
use Rattle.conc_run_progress.specs.Boards.{doing_in, is_usable_after, slot_of, word_of}
use Rattle.conc_run_progress.specs.HandMoves.{HandCan, claims, polls, posts}
use Rattle.conc_run_progress.specs.LeadMoves.{LeadCan, LeadMove, collects, lets_out, opens, sees}
use Rattle.conc_run_progress.specs.Progress.{IsGoingOn, IsManned}
use Rattle.conc_run_progress.proofs.Board.{as_written, at_place, can_post, few, fits_as, is_request, kept_rule, req_of, run_no_claim, serves_hand, waits_hand, waits_works}
use Rattle.conc_run_progress.proofs.Claims.{NoneRuns, admits-at, claim_met, seen_answered}
use Rattle.conc_run_progress.proofs.Comes.{MayStartAt, runs_since}
use Rattle.conc_run_progress.proofs.Started.{let_runs}

-- the lead or a hand can move, where no end is kept
abbrev pub Moves : Plan → Readings → List Event → Lead → BoardState → Type 0
Moves plan readings list lead s = LeadCan plan readings.list list None lead s ⊎ HandCan plan s

module _ (plan : Plan) (readings : Readings) (list : List Event) (lead : Lead) (s : BoardState) (going : IsGoingOn plan readings list None lead s)
    (calm : forced plan (state plan (reverse list)) ≡ None) where
  lead_moves : LeadMove plan readings.list list None lead s → Moves plan readings list lead s
  lead_moves move = inl (going.seated, move)

  hand_posts : (j : ℕ) (r : RequestId) (p : PlaceId) (stop : Bool) → doing_in s j ≡ Serves r p stop → Moves plan readings list lead s
  hand_posts j r p stop does = inr (j, serves_hand plan lead s going.crew.sits j r p stop does, posts (can_post plan lead s going.crew.sits j r p stop (going.crew.admitted j) does))

  hand_polls : (j : ℕ) (r : RequestId) (p : PlaceId) → doing_in s j ≡ Waits r p → word_of s r ≢ claimed p → Moves plan readings list lead s
  hand_polls j r p does answered = inr (j, waits_hand plan lead s going.crew.sits j r p does, polls (record { request = r; place = p; waits = does; answered = answered }))

  -- ---- a request that runs

  -- one that has the go: its hand sees the go, or serves it, or what it left is taken
  gone_moves : (r : RequestId) (p : PlaceId) (m : Bool) → IsRequest plan r → lead_state_of lead r ≡ Gone p m → Fits plan (at_place plan lead s going.crew.sits) r (Gone p m) (word_of s r) (slot_of s r)
      → Moves plan readings list lead s
  gone_moves r p m is gone (near, inl (run, inl (waits, home))) =
      let small = few plan lead s going.crew.sits p near in
      hand_polls ((kept_rule plan lead s going.crew.sits).owner p) r p waits (λ e. run_no_claim m p p small small (sym run ∙ e))
  gone_moves r p m is gone (near, inl (run, inr (stop, serves, home))) = hand_posts ((kept_rule plan lead s going.crew.sits).owner p) r p stop serves
  gone_moves r p m is gone (near, inr (end, left)) = lead_moves (collects (record {
    request = r;
    place = p;
    marked = m;
    of_plan = is;
    lead_state = gone;
    word = end;
    left = left;
    nothing_forced = calm;
    nothing_kept = refl;
  }))

  pub run_moves : (x : Req) (p : PlaceId) → Has plan.requests x → (facts_of plan (reverse list) x).place ≡ Some p → Moves plan readings list lead s
  run_moves x p hx place =
      let g = going.runs.each x p hx place (runs_since plan (reverse list) x p hx calm place) refl in
      let is = is_request plan x hx in
      gone_moves x.number p g.0 is g.1 (fits_as plan lead s going.crew.sits x.number (Gone p g.0) is g.1)

  -- ---- a request that could start, where nothing runs

  lawful : is_lawful_so_far plan (reverse list) ≡ true
  lawful = lawful_is_lawful_so_far plan readings.list (reverse list) readings.in_order going.lawful

  module _ (none : NoneRuns plan (reverse list)) (x : Req) (p : PlaceId) (hx : Has plan.requests x) (near : IsPlace plan p) (may : MayStartAt plan (state plan (reverse list)) x p) where
    is : IsRequest plan x.number
    is = is_request plan x hx

    waits : WaitsToStart (facts_of plan (reverse list) x)
    waits = record { let_out = sym (ap (λ (f : Facts). f.let_out) (facts_at-state plan (reverse list) x hx)) ∙ may.let_out; place = none x hx }

    -- the place is closed, or it is open
    place_switch : (slice_index s.words (place_word plan p) ≡ 0) ⊎ (slice_index s.words (place_word plan p) ≡ 1)
    place_switch = let most = (kept_rule plan lead s going.crew.sits).switches (place_word plan p) (omega arith) in dite (ℕ_discrete (slice_index s.words (place_word plan p)) 0)
        (λ closed. inl closed)
        (λ other. inr (omega (arith, most, other)))

    usable : is_usable_after plan (reverse list) p ≡ true
    unfolding state
    usable = may.usable

    -- it is let out and nobody claims it: the hand that has the place does nothing, or something else
    module _ (word : word_of s x.number ≡ released) (man : IsManned s p) where
      idle_moves : doing_in s man.hand ≡ Idle → Moves plan readings list lead s
      idle_moves does = by place_switch where
        by : (slice_index s.words (place_word plan p) ≡ 0) ⊎ (slice_index s.words (place_word plan p) ≡ 1) → Moves plan readings list lead s
        by (inl closed) = lead_moves (opens (record { place = p; of_plan = near; usable = usable; closed = closed }))
        by (inr opened) = inr (
          man.hand,
          man.is_hand,
          claims (record {
            idle = does;
            not_told = as_written plan lead s going.crew.sits (end_word plan) (omega arith) ∙ going.crew.not_told;
            place = p;
            place_of_plan = near;
            own = man.own;
            open_there = opened;
            request = x.number;
            request_of_plan = is;
            admitted = admits-at plan p x hx ∙ may.admitted;
            word = word;
          }),
        )

      waits_moves : (r : RequestId) (q : PlaceId) → doing_in s man.hand ≡ Waits r q → Moves plan readings list lead s
      waits_moves r q does = dite (ℕ_discrete (word_of s r) (claimed q))
          (λ claim. let w = waits_works plan lead s going.crew.sits man.hand r q does in
          let y = req_of plan r w.1 in
          lead_moves (claim_met plan readings list lead s going calm none y.req q man.hand y.there
          (subst (λ (z : RequestId). IsRequest plan z) (sym y.number) w.1) w.2
          (subst (λ (z : RequestId). word_of s z ≡ claimed q) (sym y.number) claim)
          (subst (λ (z : RequestId). doing_in s man.hand ≡ Waits z q) (sym y.number) does)))
          (λ other. hand_polls man.hand r q does other)

      hand_moves : (d : Doing) → doing_in s man.hand ≡ d → Moves plan readings list lead s
      hand_moves Idle does = idle_moves does
      hand_moves (Waits r q) does = waits_moves r q does
      hand_moves (Serves r q stop) does = hand_posts man.hand r q stop does

    -- by its lead state
    by_state : (st : LeadState) → lead_state_of lead x.number ≡ st → GoesWith st (facts_of plan (reverse list) x) → Fits plan (at_place plan lead s going.crew.sits) x.number st (word_of s x.number) (slot_of s x.number)
        → Moves plan readings list lead s
    by_state NotLet so goes f = lead_moves (lets_out (record {
      request = x.number;
      of_plan = is;
      let_in = record { req = x; there = hx; number = refl; waits = waits };
      lead_state = so;
      apart = λ q on. apart plan (reverse list) lawful lead going.tied x hx waits x.number refl q on;
      word = f.0;
    }))
    by_state Let so goes (inl free, home) = hand_moves free (going.crew.manned p near) (doing_in s (going.crew.manned p near).hand) refl
    by_state Let so goes (inr claim, home) = lead_moves (sees (record { request = x.number; place = claim.0; of_plan = is; lead_state = so; word = claim.2 }))
    by_state (Seen q) so goes f = lead_moves (seen_answered plan readings list lead s going calm none x q ((kept_rule plan lead s going.crew.sits).owner q) hx so is f.1 f.2)
    by_state (Gone q m) so goes f = let never : None ≡ Some q = sym waits.place ∙ goes.place_is in cc
    by_state (Got q m) so goes f = let never : None ≡ Some q = sym waits.place ∙ goes.place_is in cc
    by_state (Done m) so goes f = absurd (let_runs plan x hx (reverse list) lawful goes waits.let_out waits.place)

    pub start_moves : Moves plan readings list lead s
    start_moves = by_state (lead_state_of lead x.number) refl (going.tied.each x hx) (fits_as plan lead s going.crew.sits x.number (lead_state_of lead x.number) is refl)
