-- What the rule of the board says of a request and of a seat, where the lead sits at the board.
use Rattle.std.proofs.Common.{◌≡◌, ◌⊎◌, ℕ, ◌<◌, ◌≤◌, Bool, true, false, sym, refl, ap, ◌∙◌, subst, inl, inr, arith}
use Rattle.std.specs.Prelude.{slice_index}
use mathlib.Core.Option.{none}
use Rattle.conc_types.specs.declared.event.PlaceId.{PlaceId}
use Rattle.conc_types.specs.declared.event.RequestId.{RequestId}
use Rattle.conc_types.specs.declared.plan.Plan.{Plan}
use Rattle.conc_types.specs.declared.plan.Req.{Req}
use Rattle.conc_base_law.specs.Words.{Has}
use Rattle.conc_base_law.proofs.Numbering.{found, numbered_plan}
use Rattle.conc_board.specs.Admission.{IsAdmitted}
use Rattle.conc_board.specs.Permits.{SitsAt}
use Rattle.conc_board.specs.Seats.{lead_state_of, switch_of}
use Rattle.conc_board.specs.declared.lead.Lead.{Lead}
use Rattle.conc_board.proofs.Leads.{lead_state_there, request_there}
use Rattle.conc_board.proofs.PermitsHeld.{works}
use Rattle.conc_pool_seats.specs.Rule.{BoardState, Fits, IsServed, Keep, Runs, Works, doing_at, view_at}
use Rattle.conc_pool_seats.specs.Words.{IsPlace, IsRequest, claimed, count_of_requests, ended, request_word, run_word, running, stopping}
use Rattle.conc_pool_seats.specs.declared.views.Doing.{Doing}
use Rattle.conc_pool_seats.specs.declared.views.Doing.TheVariants.{Idle, Waits, Serves}
use Rattle.conc_pool_seats.specs.declared.views.LeadState.{LeadState}
use Rattle.conc_pool_seats.specs.declared.views.View.{View}
use Rattle.conc_pool_seats.proofs.Facts.{at_view}
use Rattle.conc_pool_seats.proofs.HandSteps.{gone_at}
use Rattle.conc_pool_seats.proofs.Moves.{led}
use Rattle.conc_run_desk.proofs.Ends.{named}
use Rattle.conc_run_desk.proofs.Named.{of_plan}
use Rattle.conc_worker.proofs.Reported.{admitted_has_report}
use Rattle.conc_run_progress.specs.Boards.{IsHandIn, doing_in, slot_of, word_of}
use Rattle.conc_run_progress.specs.HandMoves.{CanPost}

-- ---- words

-- a word that runs is no claim
pub run_no_claim : (marked : Bool) (p q : PlaceId) → p.index < 64 → q.index < 64 → run_word marked p ≡ claimed q → ⊥
run_no_claim true p q small few e = omega arith
run_no_claim false p q small few e = omega arith

-- nor is one that ended
pub end_no_claim : (p q : PlaceId) → q.index < 64 → ended p ≡ claimed q → ⊥
end_no_claim p q few e = omega arith

-- with the stop sign or without
pub runs_there : (stop : Bool) (p : PlaceId) (n : ℕ) → Runs stop p n → (n ≡ running p) ⊎ (n ≡ stopping p)
runs_there true p n h = inr h
runs_there false p n h = h

-- ---- requests

-- a request of the plan is one that has a word
pub is_request : (plan : Plan) (x : Req) → Has plan.requests x → IsRequest plan x.number
is_request plan x hx = of_plan plan x.number x (numbered_plan plan x hx)

-- and each that has a word is one of the plan
pub record OfPlan (plan : Plan) (r : RequestId) : Type 0 where
  pub req : Req
  pub there : Has plan.requests req
  pub number : req.number ≡ r

pub req_of : (plan : Plan) (r : RequestId) → IsRequest plan r → OfPlan plan r
req_of plan r is =
    let x = named plan r is in
    let f = found plan r x.0 x.1 in
    record { req = x.0; there = f.1; number = ap (λ n. record { number = n }) f.0 }

module _ (plan : Plan) (lead : Lead) (s : BoardState) (sits : SitsAt plan s lead) where
  abbrev pub kept_rule : Keep plan s
  kept_rule = sits.0

  -- what the owner of a place does
  abbrev pub at_place : PlaceId → Doing
  at_place = doing_at s.views kept_rule.owner

  -- the places of the plan are few
  pub few : (p : PlaceId) → IsPlace plan p → p.index < 64
  few p near = let most = kept_rule.few_places in omega (arith, near.within, most)

  -- a request of the plan, by its lead state
  pub fits_of : (r : RequestId) → IsRequest plan r → Fits plan at_place r (lead_state_of lead r) (word_of s r) (slot_of s r)
  fits_of r is =
      let l = led plan s kept_rule lead.seat.id lead.seat.me.0 sits.1 lead.leads in
      subst (λ (z : RequestId × LeadState). Fits plan at_place z.0 z.1 (word_of s r) (slot_of s r))
      (λ i. (request_there r (request_word r) (λ _. request_word r) is.from_one i, lead_state_there lead.seat.me.0.lead_states r (request_word r) (λ _. request_word r) is.from_one i))
      (l.fits (request_word r) (omega (arith, is.from_one, is.within)))

  pub fits_as : (r : RequestId) (st : LeadState) → IsRequest plan r → lead_state_of lead r ≡ st → Fits plan at_place r st (word_of s r) (slot_of s r)
  fits_as r st is so = subst (λ (z : LeadState). Fits plan at_place r z (word_of s r) (slot_of s r)) so (fits_of r is)

  -- a word that is no request's is as the lead wrote it
  pub as_written : (i : ℕ) → count_of_requests plan ≤ i → slice_index s.words i ≡ switch_of lead i
  as_written i far = let l = led plan s kept_rule lead.seat.id lead.seat.me.0 sits.1 lead.leads in l.each_switch i far

  -- a seat that does something is no lead's
  pub is_hand : (j : ℕ) → (doing_in s j ≡ Idle → ⊥) → IsHandIn s j
  is_hand j busy = by (view_at s.views j).leads refl where
    idle : (view_at s.views j).leads ≡ true → doing_in s j ≡ Idle
    idle leads =
        let l = led plan s kept_rule lead.seat.id lead.seat.me.0 sits.1 lead.leads in
        let same : j ≡ lead.seat.id = kept_rule.one_lead j leads ∙ sym l.is in
        ap (λ (n : ℕ). doing_in s n) same ∙ (ap (λ (v : View). v.doing) (at_view s.views lead.seat.id lead.seat.me.0 sits.1).1 ∙ lead.idle)

    by : (b : Bool) → (view_at s.views j).leads ≡ b → (view_at s.views j).leads ≡ false
    by true leads = absurd (busy (idle leads))
    by false leads = leads

  pub waits_hand : (j : ℕ) (r : RequestId) (p : PlaceId) → doing_in s j ≡ Waits r p → IsHandIn s j
  waits_hand j r p does = is_hand j (λ idle. let never : Waits r p ≡ Idle = sym does ∙ idle in cc)

  pub serves_hand : (j : ℕ) (r : RequestId) (p : PlaceId) (stop : Bool) → doing_in s j ≡ Serves r p stop → IsHandIn s j
  serves_hand j r p stop does = is_hand j (λ idle. let never : Serves r p stop ≡ Idle = sym does ∙ idle in cc)

  -- a hand that waits does so at a place of its own
  pub waits_works : (j : ℕ) (r : RequestId) (p : PlaceId) → doing_in s j ≡ Waits r p → (kept_rule.owner p ≡ j) × IsRequest plan r × IsPlace plan p
  waits_works j r p does = subst (λ (d : Doing). Works plan kept_rule.owner s.words j d) does (kept_rule.each_seat j)

  -- a hand that serves has the slot, and leaves what came of its request
  pub can_post : (j : ℕ) (r : RequestId) (p : PlaceId) (stop : Bool) → IsAdmitted plan (doing_in s j) → doing_in s j ≡ Serves r p stop → CanPost plan s j
  can_post j r p stop admitted does =
      let w = works plan s kept_rule j r p stop does in
      let g = gone_at plan at_place r p (lead_state_of lead r) (word_of s r) (slot_of s r) kept_rule.few_places (few p w.2) (runs_there stop p (word_of s r) w.3) (fits_of r w.1) in
      record {
        request = r;
        place = p;
        stop = stop;
        serves = does;
        runs = w.3;
        slot = slot_out g.3;
        report = admitted_has_report plan p r (subst (λ (d : Doing). IsAdmitted plan d) does admitted);
      }
    where
      here : at_place p ≡ Serves r p stop
      here = ap (λ (n : ℕ). doing_in s n) (works plan s kept_rule j r p stop does).0 ∙ does

      slot_out : IsServed (at_place p) r p (slot_of s r) → slot_of s r ≡ none
      slot_out (inl waits) = let never : Waits r p ≡ Serves r p stop = sym waits.0 ∙ here in cc
      slot_out (inr out) = out.2
