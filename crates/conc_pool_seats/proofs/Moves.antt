-- A step of the lead, of a hand, or on a word that is no request's keeps the rule.
use Rattle.std.proofs.Common.{◌≡◌, ℕ, ◌<◌, ◌≤◌, ◌≢◌, Bool, true, List, length, get_or, set, sym, refl, ap, ◌∙◌, subst, arith, length-set, get_or-set_other, get_or-set_same, Option, Some}
use mathlib.Core.Logic.{dite}
use mathlib.Core.Option.{none, some}
use native.Mathlib.Decide.{ℕ_discrete}
use lib.ListN.{get_elem?}
use Rattle.atomic_table.specs.Table.{State, Act, keeps, homes_after, stepped}
use Rattle.conc_types.specs.declared.event.PlaceId.{PlaceId}
use Rattle.conc_types.specs.declared.plan.Plan.{Plan}
use Rattle.conc_pool_seats.specs.declared.views.Doing.{Doing}
use Rattle.conc_pool_seats.specs.declared.views.Doing.TheVariants.{Idle, Waits, Serves}
use Rattle.conc_pool_seats.specs.declared.views.LeadState.{LeadState}
use Rattle.conc_pool_seats.specs.declared.views.View.{View}
use Rattle.conc_pool_seats.specs.Places.{has}
use Rattle.conc_pool_seats.specs.Rule.{AreApart, Fits, Home, IsAtOwn, Keep, Runs, Works, doing_at, home_at, nobody, view_at}
use Rattle.conc_pool_seats.specs.LeadStates.{lead_state_at}
use Rattle.conc_pool_seats.specs.Steps.{Slot, noted, with_switch}
use Rattle.conc_pool_seats.specs.Words.{IsPlace, count_of_requests, count_of_words, request_of, request_word}
use Rattle.conc_pool_seats.proofs.Facts.{at_view, fits_on, request_of-ne, same_part}

abbrev pub St : Type 0
St = State Slot View

abbrev pub word : St → ℕ → ℕ
word s i = get_or s.words i 0

abbrev pub home : St → ℕ → Home
home s i = home_at s.homes i

-- what a seat does is about no request but the one with this word
abbrev pub OnlyOn : ℕ → Doing → Type 0
OnlyOn i Idle = Unit {0}
OnlyOn i (Waits r p) = r ≡ request_of i
OnlyOn i (Serves r p stop) = r ≡ request_of i

module _ (plan : Plan) where
  -- what a seat does stays at its place, where the word i becomes n and what is served there still runs
  pub works_on : (d : Doing) (s : St) (k : Keep plan s) (i n j : ℕ) → i < count_of_requests plan →
      ((stop : Bool) (p : PlaceId) → IsPlace plan p → k.owner p ≡ j → Runs stop p (word s i) → Runs stop p n) →
      Works plan k.owner s.words j d → Works plan k.owner (set s.words i n) j d
  works_on Idle s k i n j inside stays h = tt
  works_on (Waits r p) s k i n j inside stays h = h
  works_on (Serves r p stop) s k i n j inside stays h = let wide = k.all_words in (
    h.0,
    h.1,
    h.2,
    dite (ℕ_discrete (request_word r) i)
        (λ e. subst (Runs stop p) (sym (ap (λ (q : ℕ). get_or (set s.words i n) q 0) e ∙ get_or-set_same s.words i n 0 (omega arith)))
        (stays stop p h.2 h.0 (subst (λ (q : ℕ). Runs stop p (word s q)) e h.3)))
        (λ other. subst (Runs stop p) (sym (get_or-set_other s.words i (request_word r) n 0 other)) h.3),
  )

  -- the lead's view in the rule
  pub record Led (s : St) (k : Keep plan s) (id : ℕ) (v : View) : Type 0 where
    pub all_lead_states : length v.lead_states ≡ count_of_requests plan
    pub fits : (i : ℕ) → i < count_of_requests plan →
        Fits plan (doing_at s.views k.owner) (request_of i) (lead_state_at v.lead_states i) (word s i) (home s i)
    pub apart : AreApart plan v.lead_states
    pub all_switches : length v.switches ≡ count_of_words plan
    pub each_switch : (i : ℕ) → count_of_requests plan ≤ i → word s i ≡ get_or v.switches i 0
    pub knows_plan : v.plan ≡ Some plan
    pub is : id ≡ k.lead

  pub led : (s : St) (k : Keep plan s) (id : ℕ) (v : View) → get_elem? s.views id ≡ some v → v.leads ≡ true → Led s k id v
  led s k id v at leads =
      let here = at_view s.views id v at in
      let is : id ≡ k.lead = k.one_lead id (ap (λ (u : View). u.leads) here.1 ∙ leads) in
      let was : view_at s.views k.lead ≡ v = ap (view_at s.views) (sym is) ∙ here.1 in
      record {
        all_lead_states = ap (λ (u : View). length u.lead_states) (sym was) ∙ k.all_lead_states;
        fits = λ i l. subst (λ (u : View). Fits plan (doing_at s.views k.owner) (request_of i) (lead_state_at u.lead_states i) (word s i) (home s i)) was (k.each_request i l);
        apart = subst (λ (u : View). AreApart plan u.lead_states) was k.apart;
        all_switches = ap (λ (u : View). length u.switches) (sym was) ∙ k.all_switches;
        each_switch = λ i far. k.each_switch i far ∙ ap (λ (u : View). get_or u.switches i 0) was;
        knows_plan = ap (λ (u : View). u.plan) (sym was) ∙ k.knows_plan;
        is = is;
      }

  -- a step of the lead on the word i, which becomes n
  pub lead_moves : (s : St) (k : Keep plan s) (id i n : ℕ) (cs : List (ℕ × Slot)) (v w : View) (a : Act Slot) (h : Home) →
      get_elem? s.views id ≡ some v → v.leads ≡ true → i < count_of_requests plan →
      w.leads ≡ v.leads → w.plan ≡ v.plan → w.switches ≡ v.switches → w.places ≡ v.places → w.doing ≡ v.doing → length w.lead_states ≡ length v.lead_states →
      AreApart plan w.lead_states →
      Fits plan (doing_at s.views k.owner) (request_of i) (lead_state_at w.lead_states i) n h →
      ((j : ℕ) → j ≢ i → lead_state_at w.lead_states j ≡ lead_state_at v.lead_states j) →
      ((stop : Bool) (p : PlaceId) → IsPlace plan p → Runs stop p (word s i) → Runs stop p n) →
      homes_after s.homes cs a ≡ set s.homes i h →
      Keep plan (stepped s i n id cs w a)
  lead_moves s k id i n cs v w a h at leads inside same_leads same_plan same_switches same_places same_doing same_length apart fits others stays homes =
      let here = at_view s.views id v at in
      let l = led s k id v at leads in
      let is = l.is in
      let wide = k.all_words in let deep = k.all_slots in
      let ws : List ℕ = set s.words i n in
      let vs : List View = set s.views id w in
      let hs : List Home = homes_after s.homes cs a in
      let now : view_at vs k.lead ≡ w = ap (view_at vs) (sym is) ∙ get_or-set_same s.views id w nobody here.0 in
      let lead_states : w.lead_states ≡ (view_at vs k.lead).lead_states = ap (λ (u : View). u.lead_states) (sym now) in
      let there : n ≡ get_or ws i 0 = sym (get_or-set_same s.words i n 0 (omega arith)) in
      let slot : h ≡ home_at hs i = sym (ap (λ (xs : List Home). home_at xs i) homes ∙ get_or-set_same s.homes i h none (omega arith)) in
      let doings : (j : ℕ) → (view_at s.views j).doing ≡ (view_at vs j).doing = λ j. sym (same_part (λ u. u.doing) s.views id v w at same_doing j) in
      record {
        lead = k.lead;
        owner = k.owner;
        few_places = k.few_places;
        all_words = length-set s.words i n ∙ wide;
        all_slots = ap (λ (xs : List Home). length xs) homes ∙ (length-set s.homes i h ∙ deep);
        all_lead_states = ap (λ (ss : List LeadState). length ss) (sym lead_states) ∙ (same_length ∙ l.all_lead_states);
        leads = same_part (λ u. u.leads) s.views id v w at same_leads k.lead ∙ k.leads;
        one_lead = λ j e. k.one_lead j (sym (same_part (λ u. u.leads) s.views id v w at same_leads j) ∙ e);
        knows_plan = ap (λ (u : View). u.plan) now ∙ (same_plan ∙ l.knows_plan);
        one_owner = λ j p e. k.one_owner j p (sym (ap (λ (ps : List PlaceId). has ps p) (same_part (λ u. u.places) s.views id v w at same_places j)) ∙ e);
        at_own = λ j. subst (λ (z : List PlaceId × Doing). IsAtOwn z.0 z.1) (λ x. (sym (same_part (λ u. u.places) s.views id v w at same_places j) x, doings j x)) (k.at_own j);
        apart = subst (AreApart plan) lead_states apart;
        each_request = λ j near. dite (ℕ_discrete j i)
            (λ e. subst (λ (z : ℕ × (PlaceId → Doing) × LeadState × ℕ × Home). Fits plan z.1 (request_of z.0) z.2 z.3 z.4)
            (λ x. (
              sym e x,
              (λ p. doings (k.owner p) x),
              (ap (lead_state_at w.lead_states) (sym e) ∙ ap (λ (ss : List LeadState). lead_state_at ss j) lead_states) x,
              (there ∙ ap (λ (q : ℕ). get_or ws q 0) (sym e)) x,
              (slot ∙ ap (home_at hs) (sym e)) x,
            )) fits)
            (λ other. subst (λ (z : (PlaceId → Doing) × LeadState × ℕ × Home). Fits plan z.0 (request_of j) z.1 z.2 z.3)
            (λ x. (
              (λ p. doings (k.owner p) x),
              (sym (others j other) ∙ ap (λ (ss : List LeadState). lead_state_at ss j) lead_states) x,
              sym (get_or-set_other s.words i j n 0 other) x,
              sym (ap (λ (xs : List Home). home_at xs j) homes ∙ get_or-set_other s.homes i j h none other) x,
            )) (l.fits j near));
        each_seat = λ j. subst (Works plan k.owner ws j) (doings j) (works_on (view_at s.views j).doing s k i n j inside (λ stop p near _. stays stop p near) (k.each_seat j));
        all_switches = ap (λ (xs : List ℕ). length xs) (same_part (λ u. u.switches) s.views id v w at same_switches k.lead) ∙ k.all_switches;
        each_switch = λ j far. get_or-set_other s.words i j n 0 (λ e. omega arith)
            ∙ (k.each_switch j far ∙ sym (ap (λ (xs : List ℕ). get_or xs j 0) (same_part (λ u. u.switches) s.views id v w at same_switches k.lead)));
        switches = λ j far. subst (λ (z : ℕ). z ≤ 1) (sym (get_or-set_other s.words i j n 0 (λ e. omega arith))) (k.switches j far);
      }

  pub own_doing : (s : St) (k : Keep plan s) (id : ℕ) (v : View) (p : PlaceId) → get_elem? s.views id ≡ some v → k.owner p ≡ id → doing_at s.views k.owner p ≡ v.doing
  own_doing s k id v p at e = ap (λ (j : ℕ). (view_at s.views j).doing) e ∙ ap (λ (u : View). u.doing) (at_view s.views id v at).1

  -- what another request rests on is nothing that a hand does on this one
  only_waits : (d : Doing) (i j : ℕ) (p : PlaceId) → OnlyOn i d → j ≢ i → d ≢ Waits (request_of j) p
  only_waits Idle i j p on other e = cc
  only_waits (Waits q u) i j p on other e = request_of-ne j i other (let x : q ≡ request_of j = cc in sym x ∙ on)
  only_waits (Serves q u stop) i j p on other e = cc

  only_serves : (d : Doing) (i j : ℕ) (p : PlaceId) (stop : Bool) → OnlyOn i d → j ≢ i → d ≢ Serves (request_of j) p stop
  only_serves Idle i j p stop on other e = cc
  only_serves (Waits q u) i j p stop on other e = cc
  only_serves (Serves q u a) i j p stop on other e = request_of-ne j i other (let x : q ≡ request_of j = cc in sym x ∙ on)

  -- a step of a hand on the word i, which becomes n
  pub hand_moves : (s : St) (k : Keep plan s) (id i n : ℕ) (cs : List (ℕ × Slot)) (v w : View) (a : Act Slot) (h : Home) →
      get_elem? s.views id ≡ some v → i < count_of_requests plan →
      w.leads ≡ v.leads → w.plan ≡ v.plan → w.switches ≡ v.switches → w.places ≡ v.places → w.lead_states ≡ v.lead_states → OnlyOn i v.doing → IsAtOwn v.places w.doing →
      ((at' : PlaceId → Doing) → ((p : PlaceId) → k.owner p ≡ id → at' p ≡ w.doing) →
      ((p : PlaceId) → k.owner p ≢ id → at' p ≡ doing_at s.views k.owner p) → (st : LeadState) →
      Fits plan (doing_at s.views k.owner) (request_of i) st (word s i) (home s i) → Fits plan at' (request_of i) st n h) →
      Works plan k.owner (set s.words i n) id w.doing →
      ((stop : Bool) (p : PlaceId) → IsPlace plan p → k.owner p ≢ id → Runs stop p (word s i) → Runs stop p n) →
      homes_after s.homes cs a ≡ set s.homes i h →
      Keep plan (stepped s i n id cs w a)
  hand_moves s k id i n cs v w a h at inside same_leads same_plan same_switches same_places same_lead_states on at_own fits own stays homes =
      let here = at_view s.views id v at in
      let wide = k.all_words in let deep = k.all_slots in
      let ws : List ℕ = set s.words i n in
      let vs : List View = set s.views id w in
      let hs : List Home = homes_after s.homes cs a in
      let now : view_at vs id ≡ w = get_or-set_same s.views id w nobody here.0 in
      let there : n ≡ get_or ws i 0 = sym (get_or-set_same s.words i n 0 (omega arith)) in
      let slot : h ≡ home_at hs i = sym (ap (λ (xs : List Home). home_at xs i) homes ∙ get_or-set_same s.homes i h none (omega arith)) in
      let lead_states : (view_at s.views k.lead).lead_states ≡ (view_at vs k.lead).lead_states = sym (same_part (λ u. u.lead_states) s.views id v w at same_lead_states k.lead) in
      let at0 : PlaceId → Doing = doing_at s.views k.owner in
      let at' : PlaceId → Doing = doing_at vs k.owner in
      let mine : (p : PlaceId) → k.owner p ≡ id → at' p ≡ w.doing = λ p e. ap (λ (j : ℕ). (view_at vs j).doing) e ∙ ap (λ (u : View). u.doing) now in
      let theirs : (p : PlaceId) → k.owner p ≢ id → at' p ≡ at0 p = λ p e. ap (λ (u : View). u.doing) (get_or-set_other s.views id (k.owner p) w nobody e) in
      record {
        lead = k.lead;
        owner = k.owner;
        few_places = k.few_places;
        all_words = length-set s.words i n ∙ wide;
        all_slots = ap (λ (xs : List Home). length xs) homes ∙ (length-set s.homes i h ∙ deep);
        all_lead_states = ap (λ (ss : List LeadState). length ss) (sym lead_states) ∙ k.all_lead_states;
        leads = same_part (λ u. u.leads) s.views id v w at same_leads k.lead ∙ k.leads;
        one_lead = λ j e. k.one_lead j (sym (same_part (λ u. u.leads) s.views id v w at same_leads j) ∙ e);
        knows_plan = same_part (λ u. u.plan) s.views id v w at same_plan k.lead ∙ k.knows_plan;
        one_owner = λ j p e. k.one_owner j p (sym (ap (λ (ps : List PlaceId). has ps p) (same_part (λ u. u.places) s.views id v w at same_places j)) ∙ e);
        at_own = λ j. dite (ℕ_discrete j id)
            (λ e. subst (λ (u : View). IsAtOwn u.places u.doing) (sym (ap (view_at vs) e ∙ now)) (subst (λ (ps : List PlaceId). IsAtOwn ps w.doing) (sym same_places) at_own))
            (λ other. subst (λ (u : View). IsAtOwn u.places u.doing) (sym (get_or-set_other s.views id j w nobody other)) (k.at_own j));
        apart = subst (AreApart plan) lead_states k.apart;
        each_request = λ j near. let st : LeadState = lead_state_at (view_at s.views k.lead).lead_states j in dite (ℕ_discrete j i)
            (λ e. subst (λ (z : ℕ × LeadState × ℕ × Home). Fits plan at' (request_of z.0) z.1 z.2 z.3)
            (λ x. (sym e x, ap (λ (ss : List LeadState). lead_state_at ss j) lead_states x, (there ∙ ap (λ (q : ℕ). get_or ws q 0) (sym e)) x, (slot ∙ ap (home_at hs) (sym e)) x))
            (fits at' mine theirs st (subst (λ (q : ℕ). Fits plan at0 (request_of q) st (word s q) (home s q)) e (k.each_request j near))))
            (λ other. subst (λ (z : LeadState × ℕ × Home). Fits plan at' (request_of j) z.0 z.1 z.2)
            (λ x. (
              ap (λ (ss : List LeadState). lead_state_at ss j) lead_states x,
              sym (get_or-set_other s.words i j n 0 other) x,
              sym (ap (λ (xs : List Home). home_at xs j) homes ∙ get_or-set_other s.homes i j h none other) x,
            ))
            (fits_on plan at0 at' (request_of j)
            (λ p e. dite (ℕ_discrete (k.owner p) id) (λ o. absurd (only_waits v.doing i j p on other (sym (own_doing s k id v p at o) ∙ e))) (λ o. theirs p o ∙ e))
            (λ p stop e. dite (ℕ_discrete (k.owner p) id) (λ o. absurd (only_serves v.doing i j p stop on other (sym (own_doing s k id v p at o) ∙ e))) (λ o. (stop, theirs p o ∙ e)))
            st (word s j) (home s j) (k.each_request j near)));
        each_seat = λ j. dite (ℕ_discrete j id)
            (λ e. subst (λ (z : ℕ × View). Works plan k.owner ws z.0 z.1.doing) (λ x. (sym e x, sym (ap (view_at vs) e ∙ now) x)) own)
            (λ other. subst (λ (u : View). Works plan k.owner ws j u.doing) (sym (get_or-set_other s.views id j w nobody other))
            (works_on (view_at s.views j).doing s k i n j inside (λ stop p near is. stays stop p near (λ e. other (sym is ∙ e))) (k.each_seat j)));
        all_switches = ap (λ (xs : List ℕ). length xs) (same_part (λ u. u.switches) s.views id v w at same_switches k.lead) ∙ k.all_switches;
        each_switch = λ j far. get_or-set_other s.words i j n 0 (λ e. omega arith)
            ∙ (k.each_switch j far ∙ sym (ap (λ (xs : List ℕ). get_or xs j 0) (same_part (λ u. u.switches) s.views id v w at same_switches k.lead)));
        switches = λ j far. subst (λ (z : ℕ). z ≤ 1) (sym (get_or-set_other s.words i j n 0 (λ e. omega arith))) (k.switches j far);
      }

  works_same : (d : Doing) (owner : PlaceId → ℕ) (ws ws' : List ℕ) (j : ℕ) → ((i : ℕ) → i < count_of_requests plan → get_or ws i 0 ≡ get_or ws' i 0) →
      Works plan owner ws j d → Works plan owner ws' j d
  works_same Idle owner ws ws' j same h = tt
  works_same (Waits r p) owner ws ws' j same h = h
  works_same (Serves r p stop) owner ws ws' j same h = let of_plan = h.1 in
      (h.0, h.1, h.2, subst (Runs stop p) (same (request_word r) (omega arith)) h.3)

  -- a step that leaves the words as they were, and of which the seat notes what it found
  pub plain_moves : (s : St) (k : Keep plan s) (id i n m : ℕ) (cs : List (ℕ × Slot)) (v : View) → get_elem? s.views id ≡ some v →
      i < count_of_words plan → n ≡ word s i → Keep plan (stepped s i n id cs (noted v i m) keeps)
  plain_moves s k id i n m cs v at inside same =
      let wide = k.all_words in
      let w : View = noted v i m in
      let ws : List ℕ = set s.words i n in
      let vs : List View = set s.views id w in
      let part : (A : Type 0) (f : View → A) → f w ≡ f v → (j : ℕ) → f (view_at s.views j) ≡ f (view_at vs j) = λ A f e j. sym (same_part f s.views id v w at e j) in
      let there : get_or ws i 0 ≡ n = get_or-set_same s.words i n 0 (omega arith) in
      let lead_states = part (List LeadState) (λ u. u.lead_states) refl k.lead in
      let switches = part (List ℕ) (λ u. u.switches) refl k.lead in
      let words : (j : ℕ) → get_or s.words j 0 ≡ get_or ws j 0 = λ j. dite (ℕ_discrete j i)
      (λ e. sym (ap (λ (q : ℕ). get_or ws q 0) e ∙ (there ∙ (same ∙ ap (word s) (sym e)))))
      (λ other. sym (get_or-set_other s.words i j n 0 other)) in
      record {
        lead = k.lead;
        owner = k.owner;
        few_places = k.few_places;
        all_words = length-set s.words i n ∙ wide;
        all_slots = k.all_slots;
        all_lead_states = ap (λ (ss : List LeadState). length ss) (sym lead_states) ∙ k.all_lead_states;
        leads = sym (part Bool (λ u. u.leads) refl k.lead) ∙ k.leads;
        one_lead = λ j e. k.one_lead j (part Bool (λ u. u.leads) refl j ∙ e);
        knows_plan = sym (part (Option Plan) (λ u. u.plan) refl k.lead) ∙ k.knows_plan;
        one_owner = λ j p e. k.one_owner j p (ap (λ (ps : List PlaceId). has ps p) (part (List PlaceId) (λ u. u.places) refl j) ∙ e);
        at_own = λ j. subst (λ (z : List PlaceId × Doing). IsAtOwn z.0 z.1) (λ x. (part (List PlaceId) (λ u. u.places) refl j x, part Doing (λ u. u.doing) refl j x)) (k.at_own j);
        apart = subst (AreApart plan) lead_states k.apart;
        each_request = λ j near. subst (λ (z : (PlaceId → Doing) × LeadState × ℕ). Fits plan z.0 (request_of j) z.1 z.2 (home s j))
            (λ x. ((λ p. part Doing (λ u. u.doing) refl (k.owner p) x), ap (λ (ss : List LeadState). lead_state_at ss j) lead_states x, words j x)) (k.each_request j near);
        each_seat = λ j. subst (Works plan k.owner ws j) (part Doing (λ u. u.doing) refl j) (works_same (view_at s.views j).doing k.owner s.words ws j (λ q _. words q) (k.each_seat j));
        all_switches = ap (λ (xs : List ℕ). length xs) (sym switches) ∙ k.all_switches;
        each_switch = λ j far. sym (words j) ∙ (k.each_switch j far ∙ ap (λ (xs : List ℕ). get_or xs j 0) switches);
        switches = λ j far. subst (λ (z : ℕ). z ≤ 1) (words j) (k.switches j far);
      }

  -- the lead's write of the word i, which is no request's
  pub switch_moves : (s : St) (k : Keep plan s) (id i x m : ℕ) (cs : List (ℕ × Slot)) (v : View) → get_elem? s.views id ≡ some v → v.leads ≡ true →
      count_of_requests plan ≤ i → i < count_of_words plan → x ≤ 1 → Keep plan (stepped s i x id cs (with_switch v i x m) keeps)
  switch_moves s k id i x m cs v at leads far inside small =
      let here = at_view s.views id v at in
      let l = led s k id v at leads in
      let is = l.is in
      let wide = k.all_words in
      let long = l.all_switches in
      let w : View = with_switch v i x m in
      let ws : List ℕ = set s.words i x in
      let vs : List View = set s.views id w in
      let part : (A : Type 0) (f : View → A) → f w ≡ f v → (j : ℕ) → f (view_at s.views j) ≡ f (view_at vs j) = λ A f e j. sym (same_part f s.views id v w at e j) in
      let there : get_or ws i 0 ≡ x = get_or-set_same s.words i x 0 (omega arith) in
      let lead_states = part (List LeadState) (λ u. u.lead_states) refl k.lead in
      let now : view_at vs k.lead ≡ w = ap (view_at vs) (sym is) ∙ get_or-set_same s.views id w nobody here.0 in
      let words : (j : ℕ) → j < count_of_requests plan → get_or s.words j 0 ≡ get_or ws j 0 = λ j near. sym (get_or-set_other s.words i j x 0 (λ e. omega arith)) in
      record {
        lead = k.lead;
        owner = k.owner;
        few_places = k.few_places;
        all_words = length-set s.words i x ∙ wide;
        all_slots = k.all_slots;
        all_lead_states = ap (λ (ss : List LeadState). length ss) (sym lead_states) ∙ k.all_lead_states;
        leads = sym (part Bool (λ u. u.leads) refl k.lead) ∙ k.leads;
        one_lead = λ j e. k.one_lead j (part Bool (λ u. u.leads) refl j ∙ e);
        knows_plan = sym (part (Option Plan) (λ u. u.plan) refl k.lead) ∙ k.knows_plan;
        one_owner = λ j p e. k.one_owner j p (ap (λ (ps : List PlaceId). has ps p) (part (List PlaceId) (λ u. u.places) refl j) ∙ e);
        at_own = λ j. subst (λ (z : List PlaceId × Doing). IsAtOwn z.0 z.1) (λ y. (part (List PlaceId) (λ u. u.places) refl j y, part Doing (λ u. u.doing) refl j y)) (k.at_own j);
        apart = subst (AreApart plan) lead_states k.apart;
        each_request = λ j near. subst (λ (z : (PlaceId → Doing) × LeadState × ℕ). Fits plan z.0 (request_of j) z.1 z.2 (home s j))
            (λ y. ((λ p. part Doing (λ u. u.doing) refl (k.owner p) y), ap (λ (ss : List LeadState). lead_state_at ss j) lead_states y, words j near y)) (k.each_request j near);
        each_seat = λ j. subst (Works plan k.owner ws j) (part Doing (λ u. u.doing) refl j) (works_same (view_at s.views j).doing k.owner s.words ws j words (k.each_seat j));
        all_switches = ap (λ (u : View). length u.switches) now ∙ (length-set v.switches i x ∙ long);
        each_switch = λ j beyond. dite (ℕ_discrete j i)
            (λ e. ap (λ (q : ℕ). get_or ws q 0) e ∙ (there ∙ sym (ap (λ (u : View). get_or u.switches j 0) now ∙ (ap (λ (q : ℕ). get_or (set v.switches i x) q 0) e ∙ get_or-set_same v.switches i x 0 (omega arith)))))
            (λ other. get_or-set_other s.words i j x 0 other ∙ (l.each_switch j beyond ∙ sym (ap (λ (u : View). get_or u.switches j 0) now ∙ get_or-set_other v.switches i j x 0 other)));
        switches = λ j beyond. dite (ℕ_discrete j i)
            (λ e. subst (λ (z : ℕ). z ≤ 1) (sym (ap (λ (q : ℕ). get_or ws q 0) e ∙ there)) small)
            (λ other. subst (λ (z : ℕ). z ≤ 1) (sym (get_or-set_other s.words i j x 0 other)) (k.switches j beyond));
      }
