-- The rule has its points, and does not read what was found.
use Rattle.std.proofs.Common.{◌≡◌, ◌≢◌, ◌⊎◌, ℕ, ◌<◌, ◌≤◌, Bool, true, false, List, length, get_or, sym, refl, ap, ◌∙◌, subst, inl, inr, ⊎_elim, arith, None}
use mathlib.Core.Option.{none, some}
use Rattle.conc_types.specs.declared.event.PlaceId.{PlaceId}
use Rattle.conc_types.specs.declared.event.RequestId.{RequestId}
use Rattle.conc_types.specs.declared.plan.Plan.{Plan}
use Rattle.conc_base_law.specs.Places.{count_of_places}
use Rattle.conc_pool_seats.specs.declared.views.Doing.{Doing}
use Rattle.conc_pool_seats.specs.declared.views.Doing.TheVariants.{Waits, Serves}
use Rattle.conc_pool_seats.specs.declared.views.LeadState.{LeadState}
use Rattle.conc_pool_seats.specs.declared.views.LeadState.TheVariants.{NotLet, Let, Seen, Gone, Got, Done}
use Rattle.conc_pool_seats.specs.declared.views.View.{View}
use Rattle.conc_pool_seats.specs.Places.{has}
use Rattle.conc_pool_seats.specs.Rule.{AreApart, BoardState, Fits, HasLeft, Home, IsAtOwn, IsServed, Keep, Runs, Works, doing_at, home_at, view_at}
use Rattle.conc_pool_seats.specs.LeadStates.{is_marked, lead_state_at}
use Rattle.conc_pool_seats.specs.Words.{IsPlace, claimed, count_of_requests, ended, request_of, request_word, run_word, running, stopping}
use Rattle.conc_pool_seats.proofs.Facts.{place_eq, word_fits}
use Rattle.conc_pool_seats.proofs.HandSteps.{gone_at}
use Rattle.conc_pool_seats.proofs.Moves.{home, word}
use Rattle.conc_board.specs.Points.{DifferInFinds, Leads, Owns, Points, lead_state_by}
use Rattle.conc_board.proofs.Leads.{request_there}
use Rattle.conc_board.proofs.PermitsHeld.{works}

-- ---- what the facts of one request say

module _ (plan : Plan) (at : PlaceId → Doing) (r : RequestId) (few : count_of_places plan ≤ 64) where
  claim_waits : (p : PlaceId) (st : LeadState) (n : ℕ) (h : Home) → p.index < 64 → n ≡ claimed p → Fits plan at r st n h → at p ≡ Waits r p
  claim_waits p NotLet n h small is f = let e = f.0 in absurd (omega arith)
  claim_waits p Let n h small is (inl e, _) = absurd (omega arith)
  claim_waits p Let n h small is (inr t, _) = let near = t.1 in let e = t.2 in let same : t.0 ≡ p = place_eq t.0 p (omega arith) in subst (λ (z : PlaceId). at z ≡ Waits r z) same t.3
  claim_waits p (Seen q) n h small is f = let near = f.0 in let e = f.1 in let same : q ≡ p = place_eq q p (omega arith) in subst (λ (z : PlaceId). at z ≡ Waits r z) same f.2
  claim_waits p (Gone q true) n h small is (near, inl e) = let x = e.0 in absurd (omega arith)
  claim_waits p (Gone q false) n h small is (near, inl e) = let x = e.0 in absurd (omega arith)
  claim_waits p (Gone q m) n h small is (near, inr e) = let x = e.0 in absurd (omega arith)
  claim_waits p (Got q m) n h small is f = let e = f.1 in absurd (omega arith)
  claim_waits p (Done m) n h small is f = let e = f.0 in absurd (omega arith)

  got_out : (p : PlaceId) (m : Bool) (st : LeadState) (n : ℕ) (h : Home) → st ≡ Got p m → Fits plan at r st n h → h ≡ none
  got_out p m st n h is f = (subst (λ (z : LeadState). Fits plan at r z n h) is f).2

  left_home : (p : PlaceId) (m : Bool) (st : LeadState) (n : ℕ) (h : Home) → st ≡ Gone p m → n ≡ ended p → Fits plan at r st n h → HasLeft plan r m h
  left_home p m st n h is word f = go m (subst (λ (z : LeadState). Fits plan at r z n h) is f)
    where
      go : (m : Bool) → Fits plan at r (Gone p m) n h → HasLeft plan r m h
      go true (near, inl e) = let x = e.0 in absurd (omega arith)
      go false (near, inl e) = let x = e.0 in absurd (omega arith)
      go m (near, inr e) = e.1

  empty_home : (st : LeadState) (n : ℕ) (h : Home) → ((p : PlaceId) (stop : Bool) → at p ≢ Serves r p stop) → ((p : PlaceId) (m : Bool) → st ≢ Got p m) →
      ((p : PlaceId) (m : Bool) → st ≡ Gone p m → n ≢ ended p) → Fits plan at r st n h → h ≡ some None
  empty_home NotLet n h no_permit not_got not_ended f = f.1
  empty_home Let n h no_permit not_got not_ended f = f.1
  empty_home (Seen p) n h no_permit not_got not_ended f = f.3
  empty_home (Gone p m) n h no_permit not_got not_ended (near, inl (e, inl d)) = d.1
  empty_home (Gone p m) n h no_permit not_got not_ended (near, inl (e, inr d)) = absurd (no_permit p d.0 d.1)
  empty_home (Gone p m) n h no_permit not_got not_ended (near, inr e) = absurd (not_ended p m refl e.0)
  empty_home (Got p m) n h no_permit not_got not_ended f = absurd (not_got p m refl)
  empty_home (Done m) n h no_permit not_got not_ended f = f.1

  mark_off : (m : Bool) (p : PlaceId) (n : ℕ) → n ≡ run_word m p → n ≡ running p → m ≡ false
  mark_off true p n e x = absurd (omega arith)
  mark_off false p n e x = refl

  mark_on : (m : Bool) (p : PlaceId) (n : ℕ) → n ≡ run_word m p → n ≡ stopping p → m ≡ true
  mark_on true p n e x = refl
  mark_on false p n e x = absurd (omega arith)

-- ---- the points

module _ (plan : Plan) (s : BoardState) (k : Keep plan s) where
  fits : (i : ℕ) → i < count_of_requests plan → Fits plan (doing_at s.views k.owner) (request_of i) (lead_state_at (view_at s.views k.lead).lead_states i) (word s i) (home s i)
  fits i near = k.each_request i near

  -- what holds of the lead states of the lead holds of those of whoever leads
  by_lead : (P : LeadState → Type 0) (lead i : ℕ) → Leads s lead → P (lead_state_by s k.lead i) → P (lead_state_by s lead i)
  by_lead P lead i leads h = subst (λ (j : ℕ). P (lead_state_by s j i)) (sym (k.one_lead lead leads)) h

  to_lead : (st : LeadState) (lead i : ℕ) → Leads s lead → lead_state_by s lead i ≡ st → lead_state_by s k.lead i ≡ st
  to_lead st lead i leads h = ap (λ (j : ℕ). lead_state_by s j i) (sym (k.one_lead lead leads)) ∙ h

  owns_waits : (j : ℕ) (r : RequestId) (p : PlaceId) → (view_at s.views j).doing ≡ Waits r p → Owns s j p
  owns_waits j r p e = subst (IsAtOwn (view_at s.views j).places) e (k.at_own j)

  owns_serves : (j : ℕ) (r : RequestId) (p : PlaceId) (stop : Bool) → (view_at s.views j).doing ≡ Serves r p stop → Owns s j p
  owns_serves j r p stop e = subst (IsAtOwn (view_at s.views j).places) e (k.at_own j)

  served : (i : ℕ) (p : PlaceId) (d : Doing) (h : Home) → IsServed d (request_of i) p h → (d ≡ Waits (request_of i) p) ⊎ ((stop : Bool) × (d ≡ Serves (request_of i) p stop))
  served i p d h (inl a) = inl a.0
  served i p d h (inr b) = inr (b.0, b.1)

  pub points : Points plan s
  points = record {
    lead_states = record {
      some_lead = (k.lead, k.leads);
      one_lead = λ lead other a b. k.one_lead lead a ∙ sym (k.one_lead other b);
      apart = λ lead a. subst (λ (j : ℕ). AreApart plan (view_at s.views j).lead_states) (sym (k.one_lead lead a)) k.apart;
    };
    words = record { each = λ lead i leads near. by_lead (λ st. Rattle.conc_pool_seats.specs.LeadStates.WordFits st (word s i)) lead i leads (word_fits plan (doing_at s.views k.owner) (request_of i) (lead_state_by s k.lead i) (word s i) (home s i) (fits i near)) };
    places = record {
      one_owner = λ j l p a b. sym (k.one_owner j p a) ∙ k.one_owner l p b;
      at_own = k.at_own;
      left = (refl, refl);
    };
    claims = record {
      claimed = λ i p near small is. let e = claim_waits plan (doing_at s.views k.owner) (request_of i) k.few_places p (lead_state_by s k.lead i) (word s i) (home s i) small is (fits i near) in
          (k.owner p, owns_waits (k.owner p) (request_of i) p e, e);
      running = λ i p near small is. let t = gone_at plan (doing_at s.views k.owner) (request_of i) p (lead_state_by s k.lead i) (word s i) (home s i) k.few_places small is (fits i near) in
          let d = served i p (doing_at s.views k.owner p) (home s i) t.3 in
          (k.owner p, ⊎_elim (λ e. owns_waits (k.owner p) (request_of i) p e) (λ e. owns_serves (k.owner p) (request_of i) p e.0 e.1) d, d);
    };
    permits = record { each = λ j r p stop e. let w = works plan s k j r p stop e in (w.1, w.3) };
    slots = record {
      with_hand = λ j r p stop e. with_hand j r p stop e (works plan s k j r p stop e);
      with_lead = λ lead i p m leads near is. got_out plan (doing_at s.views k.owner) (request_of i) k.few_places p m (lead_state_by s k.lead i) (word s i) (home s i) (to_lead (Got p m) lead i leads is) (fits i near);
      left = λ lead i p m leads near is e. left_home plan (doing_at s.views k.owner) (request_of i) k.few_places p m (lead_state_by s k.lead i) (word s i) (home s i) (to_lead (Gone p m) lead i leads is) e (fits i near);
      empty = λ lead i leads near no_permit not_got not_ended. empty_home plan (doing_at s.views k.owner) (request_of i) k.few_places (lead_state_by s k.lead i) (word s i) (home s i)
          (λ p stop e. no_permit (k.owner p) p stop e)
          (λ p m e. not_got p m (by_lead (λ st. st ≡ Got p m) lead i leads e))
          (λ p m e. not_ended p m (by_lead (λ st. st ≡ Gone p m) lead i leads e)) (fits i near);
    };
    flags = record { each = k.switches };
    known = record { each = λ lead i leads far. k.each_switch i far ∙ ap (λ (j : ℕ). get_or (view_at s.views j).switches i 0) (sym (k.one_lead lead leads)) };
    marks = record {
      running = λ lead i p leads near small is. by_lead (λ st. is_marked st ≡ false) lead i leads
          (let t = gone_at plan (doing_at s.views k.owner) (request_of i) p (lead_state_by s k.lead i) (word s i) (home s i) k.few_places small (inl is) (fits i near) in
          ap is_marked t.1 ∙ mark_off plan (doing_at s.views k.owner) (request_of i) k.few_places t.0 p (word s i) t.2 is);
      stopping = λ lead i p leads near small is. by_lead (λ st. is_marked st ≡ true) lead i leads
          (let t = gone_at plan (doing_at s.views k.owner) (request_of i) p (lead_state_by s k.lead i) (word s i) (home s i) k.few_places small (inr is) (fits i near) in
          ap is_marked t.1 ∙ mark_on plan (doing_at s.views k.owner) (request_of i) k.few_places t.0 p (word s i) t.2 is);
    };
  }
    where
      either : (stop : Bool) (p : PlaceId) (n : ℕ) → Runs stop p n → (n ≡ running p) ⊎ (n ≡ stopping p)
      either true p n e = inr e
      either false p n e = e

      with_hand : (j : ℕ) (r : RequestId) (p : PlaceId) (stop : Bool) → (view_at s.views j).doing ≡ Serves r p stop →
          (k.owner p ≡ j) × Rattle.conc_pool_seats.specs.Words.IsRequest plan r × IsPlace plan p × Runs stop p (word s (request_word r)) → home_at s.homes (request_word r) ≡ none
      with_hand j r p stop e w = let i = request_word r in let few = k.few_places in let near = w.2.within in
          let there : request_of i ≡ r = request_there r i (λ _. i) w.1.from_one in
          let t = gone_at plan (doing_at s.views k.owner) (request_of i) p (lead_state_by s k.lead i) (word s i) (home s i) k.few_places (omega arith) (either stop p (word s i) w.3) (fits i (omega (arith, w.1.from_one, w.1.within))) in
          let does : doing_at s.views k.owner p ≡ Serves r p stop = ap (λ (q : ℕ). (view_at s.views q).doing) w.0 ∙ e in
          ⊎_elim (λ a. absurd (let b : Serves r p stop ≡ Waits (request_of i) p = sym does ∙ a.0 in cc)) (λ b. b.2) t.3

-- ---- what was found is not read

pub no_finds : (plan : Plan) (s : BoardState) (others : List View) → Keep plan s → DifferInFinds s.views others → Keep plan (record { words = s.words; homes = s.homes; views = others })
no_finds plan s others k differ =
    let doings : (j : ℕ) → (view_at s.views j).doing ≡ (view_at others j).doing = λ j. sym (ap (λ (u : View). u.doing) (differ j)) in
    let places : (j : ℕ) → (view_at s.views j).places ≡ (view_at others j).places = λ j. sym (ap (λ (u : View). u.places) (differ j)) in
    let lead_states : (view_at s.views k.lead).lead_states ≡ (view_at others k.lead).lead_states = sym (ap (λ (u : View). u.lead_states) (differ k.lead)) in
    let switches : (view_at others k.lead).switches ≡ (view_at s.views k.lead).switches = ap (λ (u : View). u.switches) (differ k.lead) in
    record {
      lead = k.lead;
      owner = k.owner;
      few_places = k.few_places;
      all_words = k.all_words;
      all_slots = k.all_slots;
      all_lead_states = ap (λ (ss : List LeadState). length ss) (sym lead_states) ∙ k.all_lead_states;
      leads = ap (λ (u : View). u.leads) (differ k.lead) ∙ k.leads;
      one_lead = λ j e. k.one_lead j (sym (ap (λ (u : View). u.leads) (differ j)) ∙ e);
      knows_plan = ap (λ (u : View). u.plan) (differ k.lead) ∙ k.knows_plan;
      one_owner = λ j p e. k.one_owner j p (ap (λ (ps : List PlaceId). has ps p) (places j) ∙ e);
      at_own = λ j. subst (λ (z : List PlaceId × Doing). IsAtOwn z.0 z.1) (λ x. (places j x, doings j x)) (k.at_own j);
      apart = subst (AreApart plan) lead_states k.apart;
      each_request = λ i near. subst (λ (z : (PlaceId → Doing) × LeadState). Fits plan z.0 (request_of i) z.1 (word s i) (home s i))
          (λ x. ((λ p. doings (k.owner p) x), ap (λ (ss : List LeadState). lead_state_at ss i) lead_states x)) (k.each_request i near);
      each_seat = λ j. subst (Works plan k.owner s.words j) (doings j) (k.each_seat j);
      all_switches = ap (λ (xs : List ℕ). length xs) switches ∙ k.all_switches;
      each_switch = λ i far. k.each_switch i far ∙ sym (ap (λ (xs : List ℕ). get_or xs i 0) switches);
      switches = k.switches;
    }
