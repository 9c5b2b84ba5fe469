-- Each step of a hand's keeps the rule, and leaves what it is to leave.
use Rattle.std.proofs.Common.{◌≡◌, ℕ, eqb, ◌+◌, ◌-◌, ◌==◌, ◌<◌, ◌≤◌, ◌≢◌, ◌⊎◌, if◌then◌else◌, Bool, true, false, List, [], ◌∷◌, sym, refl, ap, ◌∙◌, subst, inl, inr, ⊎_elim, arith, eq-eqb, ne_eqb, Some, None}
use mathlib.Core.Logic.{dite}
use mathlib.Core.Option.{none, some}
use native.Mathlib.Decide.{ℕ_discrete}
use lib.ListN.{get_elem?}
use lib.Seq.{set-get_or}
use prog.Atomic.{either}
use Rattle.atomic_table.specs.Table.{Me, Act, Valid, carried_after, step, keeps, takes, gives, put_back, stepped, Allows}
use Rattle.conc_types.specs.declared.event.PlaceId.{PlaceId}
use Rattle.conc_types.specs.declared.event.RequestId.{RequestId}
use Rattle.conc_types.specs.declared.plan.Plan.{Plan}
use Rattle.conc_base_law.specs.Places.{count_of_places}
use Rattle.conc_pool_seats.specs.declared.posted.Posted.{Posted}
use Rattle.conc_pool_seats.specs.declared.posted.Posted.TheVariants.{Text, Stopped, NoMemory}
use Rattle.conc_pool_seats.specs.declared.views.Doing.{Doing}
use Rattle.conc_pool_seats.specs.declared.views.Doing.TheVariants.{Idle, Waits, Serves}
use Rattle.conc_pool_seats.specs.declared.views.LeadState.{LeadState}
use Rattle.conc_pool_seats.specs.declared.views.LeadState.TheVariants.{NotLet, Let, Seen, Gone, Got, Done}
use Rattle.conc_pool_seats.specs.declared.views.View.{View}
use Rattle.conc_pool_seats.specs.Doings.{carried_by, polled, warned}
use Rattle.conc_pool_seats.specs.Places.{has}
use Rattle.conc_pool_seats.specs.Reports.{MayLeave}
use Rattle.conc_pool_seats.specs.Rule.{Fits, Home, IsAtOwn, IsServed, Keep, Runs, Works, doing_at, view_at}
use Rattle.conc_pool_seats.specs.LeadStates.{lead_state_at}
use Rattle.conc_pool_seats.specs.Steps.{ServedFits, Slot, claim_leaves, poll_leaves, post_leaves, warn_leaves, with_doing, with_left, with_post}
use Rattle.conc_pool_seats.specs.Words.{IsPlace, IsRequest, claimed, count_of_requests, ended, place_in, request_of, run_word, running, stopping}
use Rattle.conc_pool_seats.proofs.Facts.{at_view, fits_on, home_there, no_permit, place_eq}
use Rattle.conc_pool_seats.proofs.Moves.{OnlyOn, St, hand_moves, home, own_doing, word}

module _ (plan : Plan) where
  abbrev Rule : St → Type 0
  Rule = Keep plan

  -- ---- a claim

  claim_fits : (at at' : PlaceId → Doing) (r : RequestId) (q : PlaceId) (st : LeadState) (n : ℕ) (h : Home) →
      count_of_places plan ≤ 64 → n ≡ 1 → IsPlace plan q → at' q ≡ Waits r q → Fits plan at r st n h → Fits plan at' r st (claimed q) h
  claim_fits at at' r q NotLet n h few one near mine f = let e = f.0 in absurd (omega arith)
  claim_fits at at' r q Let n h few one near mine f = (inr (q, near, refl, mine), f.1)
  claim_fits at at' r q (Seen p) n h few one near mine f = let e = f.1 in absurd (omega arith)
  claim_fits at at' r q (Gone p true) n h few one near mine (there, inl e) = let x = e.0 in absurd (omega arith)
  claim_fits at at' r q (Gone p false) n h few one near mine (there, inl e) = let x = e.0 in absurd (omega arith)
  claim_fits at at' r q (Gone p m) n h few one near mine (there, inr e) = let x = e.0 in absurd (omega arith)
  claim_fits at at' r q (Got p m) n h few one near mine f = let e = f.1 in absurd (omega arith)
  claim_fits at at' r q (Done m) n h few one near mine f = let e = f.0 in absurd (omega arith)

  pub claims : (slots id : ℕ) (me : Me Slot View) (i : ℕ) (q : PlaceId) → i < count_of_requests plan → IsPlace plan q → has me.0.places q ≡ true →
      me.0.doing ≡ Idle → Allows Rule slots id me i (λ n. either (eqb n 1) (claimed q) n) (claim_leaves (step slots i 1 (claimed q) none) me)
  claims slots id me i q inside near owns idle s k _ at _ =
      let v : View = me.0 in let n : ℕ = word s i in let few = k.few_places in let r : RequestId = request_of i in
      let here = at_view s.views id v at in
      let owner_is : k.owner q ≡ id = k.one_owner id q (ap (λ (u : View). has u.places q) here.1 ∙ owns) in
      let on : OnlyOn i v.doing = subst (OnlyOn i) (sym idle) tt in
      let of_plan : IsRequest plan r = record { from_one = omega arith; within = omega arith } in
      let back : q ≡ place_in 256 (claimed q) = place_eq q (place_in 256 (claimed q)) (omega arith) in
      dite (ℕ_discrete n 1)
      (λ hit. let w : View = with_doing v (Waits r q) i n in (
        w,
        keeps,
        tt,
        subst (λ b. Rule (stepped s i (either b (claimed q) n) id me.1 w keeps)) (sym (eq-eqb n 1 hit))
            (hand_moves plan s k id i (claimed q) me.1 v w keeps (home s i) at inside refl refl refl refl refl on owns
            (λ at' mine theirs st f. claim_fits (doing_at s.views k.owner) at' r q st n (home s i) few hit near (mine q owner_is) f)
            (owner_is, of_plan, near)
            (λ stop p there _. no_permit plan n (claimed q) few (inl (omega arith)) stop p there)
            (sym (set-get_or s.homes i none))),
        (subst (λ b. w ≡ with_doing v (if b then Waits r (place_in 256 (claimed q)) else Idle) i n) (sym (eq-eqb n 1 hit)) (ap (λ (z : PlaceId). with_doing v (Waits r z) i n) back), refl),
      ))
      (λ miss. let w : View = with_doing v Idle i n in (
        w,
        keeps,
        tt,
        subst (λ b. Rule (stepped s i (either b (claimed q) n) id me.1 w keeps)) (sym (ne_eqb n 1 miss))
            (hand_moves plan s k id i n me.1 v w keeps (home s i) at inside refl refl refl refl refl on tt
            (λ at' mine theirs st f.
            let same : (p : PlaceId) → at' p ≡ doing_at s.views k.owner p = λ p. dite (ℕ_discrete (k.owner p) id) (λ o. mine p o ∙ sym (own_doing plan s k id v p at o ∙ idle)) (λ o. theirs p o) in
            fits_on plan (doing_at s.views k.owner) at' r (λ p e. same p ∙ e) (λ p stop e. (stop, same p ∙ e)) st n (home s i) f)
            tt
            (λ stop p there _ h. h)
            (sym (set-get_or s.homes i none))),
        (subst (λ b. w ≡ with_doing v (if b then Waits r (place_in 256 (claimed q)) else Idle) i n) (sym (ne_eqb n 1 miss)) refl, refl),
      ))

  -- ---- the answer to a claim

  -- a word that runs at two places names one
  one_place : (m : Bool) (q : PlaceId) (n : ℕ) (p : PlaceId) → count_of_places plan ≤ 64 → IsPlace plan q → p.index < 64 →
      n ≡ run_word m q → (n ≡ running p) ⊎ (n ≡ stopping p) → q ≡ p
  one_place true q n p few near there e (inl x) = absurd (omega arith)
  one_place true q n p few near there e (inr x) = place_eq q p (omega arith)
  one_place false q n p few near there e (inl x) = place_eq q p (omega arith)
  one_place false q n p few near there e (inr x) = absurd (omega arith)

  -- the word is neither of these two
  neither : (n : ℕ) (p : PlaceId) → (n ≡ running p) ⊎ (n ≡ stopping p) → p.index < 64 → (n < 512) ⊎ (1024 ≤ n) → ⊥
  neither n p (inl x) near (inl l) = omega arith
  neither n p (inl x) near (inr l) = omega arith
  neither n p (inr x) near (inl l) = omega arith
  neither n p (inr x) near (inr l) = omega arith

  -- a request whose word runs at p has the go there
  pub gone_at : (at : PlaceId → Doing) (r : RequestId) (p : PlaceId) (st : LeadState) (n : ℕ) (h : Home) → count_of_places plan ≤ 64 → p.index < 64 →
      (n ≡ running p) ⊎ (n ≡ stopping p) → Fits plan at r st n h →
      (m : Bool) × (st ≡ Gone p m) × (n ≡ run_word m p) × IsServed (at p) r p h
  gone_at at r p NotLet n h few near is f = let e = f.0 in absurd (neither n p is near (inl (omega arith)))
  gone_at at r p Let n h few near is (inl e, _) = absurd (neither n p is near (inl (omega arith)))
  gone_at at r p Let n h few near is (inr t, _) = let a = t.1 in let b = t.2 in absurd (neither n p is near (inl (omega arith)))
  gone_at at r p (Seen q) n h few near is f = let a = f.0 in let b = f.1 in absurd (neither n p is near (inl (omega arith)))
  gone_at at r p (Gone q m) n h few near is (there, inr e) = let b = e.0 in absurd (neither n p is near (inr (omega arith)))
  gone_at at r p (Gone q m) n h few near is (there, inl (e, d)) = let same = one_place m q n p few there near e is in
      (m, (λ i. Gone (same i) m), e ∙ ap (run_word m) same, subst (λ (z : PlaceId). IsServed (at z) r z h) same d)
  gone_at at r p (Got q m) n h few near is f = let a = f.0 in let b = f.1 in absurd (neither n p is near (inr (omega arith)))
  gone_at at r p (Done m) n h few near is f = let a = f.0 in absurd (neither n p is near (inl (omega arith)))

  -- the hand at its place waits, so its slot is at home
  runs : (at : PlaceId → Doing) (r : RequestId) (p : PlaceId) (st : LeadState) (n : ℕ) (h : Home) → count_of_places plan ≤ 64 → IsPlace plan p →
      (n ≡ running p) ⊎ (n ≡ stopping p) → at p ≡ Waits r p → Fits plan at r st n h →
      (m : Bool) × (st ≡ Gone p m) × (n ≡ run_word m p) × (h ≡ some None)
  runs at r p st n h few near is waits f = let t = gone_at at r p st n h few (omega arith) is f in
      (t.0, t.1, t.2, ⊎_elim (λ x. x.1) (λ x. absurd (let a : Serves r p x.0 ≡ Waits r p = sym x.1 ∙ waits in cc)) t.3)

  -- the hand takes the permit and the slot
  permit_fits : (at at' : PlaceId → Doing) (r : RequestId) (p : PlaceId) (stop : Bool) (st : LeadState) (n : ℕ) (h : Home) → count_of_places plan ≤ 64 → IsPlace plan p →
      (n ≡ running p) ⊎ (n ≡ stopping p) → at p ≡ Waits r p → at' p ≡ Serves r p stop → Fits plan at r st n h → Fits plan at' r st n none
  permit_fits at at' r p stop st n h few near is waits mine f = let t = runs at r p st n h few near is waits f in
      subst (λ (z : LeadState). Fits plan at' r z n none) (sym t.1) (near, inl (t.2, inr (stop, mine, refl)))

  -- the word names neither a claim nor a permit of the hand's place, so the hand may forget it
  idle_fits : (at at' : PlaceId → Doing) (r : RequestId) (p : PlaceId) (st : LeadState) (n : ℕ) (h : Home) → n ≢ running p → n ≢ stopping p → n ≢ claimed p →
      ((q : PlaceId) → (at' q ≡ at q) ⊎ (at q ≡ Waits r p)) → Fits plan at r st n h → Fits plan at' r st n h
  idle_fits at at' r p NotLet n h na nc nd other f = f
  idle_fits at at' r p Let n h na nc nd other (inl e, home) = (inl e, home)
  idle_fits at at' r p Let n h na nc nd other (inr t, home) = let e = t.2 in
      ⊎_elim (λ same. (inr (t.0, t.1, t.2, same ∙ t.3), home)) (λ is. let a : Waits r p ≡ Waits r t.0 = sym is ∙ t.3 in let b : p ≡ t.0 = cc in absurd (nd (e ∙ ap claimed (sym b)))) (other t.0)
  idle_fits at at' r p (Seen q) n h na nc nd other f = let e = f.1 in
      ⊎_elim (λ same. (f.0, f.1, same ∙ f.2, f.3)) (λ is. let a : Waits r p ≡ Waits r q = sym is ∙ f.2 in let b : p ≡ q = cc in absurd (nd (e ∙ ap claimed (sym b)))) (other q)
  idle_fits at at' r p (Gone q m) n h na nc nd other (near, inr e) = (near, inr e)
  idle_fits at at' r p (Gone q m) n h na nc nd other (near, inl (e, inl d)) =
      ⊎_elim (λ same. (near, inl (e, inl (same ∙ d.0, d.1)))) (λ is. let a : Waits r p ≡ Waits r q = sym is ∙ d.0 in let b : p ≡ q = cc in absurd (not_run m q e b)) (other q)
    where
      not_run : (m : Bool) (q : PlaceId) → n ≡ run_word m q → p ≡ q → ⊥
      not_run true q e b = nc (e ∙ ap stopping (sym b))
      not_run false q e b = na (e ∙ ap running (sym b))
  idle_fits at at' r p (Gone q m) n h na nc nd other (near, inl (e, inr d)) =
      ⊎_elim (λ same. (near, inl (e, inr (d.0, same ∙ d.1, d.2)))) (λ is. absurd (let a : Waits r p ≡ Serves r q d.0 = sym is ∙ d.1 in cc)) (other q)
  idle_fits at at' r p (Got q m) n h na nc nd other f = f
  idle_fits at at' r p (Done m) n h na nc nd other f = f

  module _ (slots id : ℕ) (me : Me Slot View) (i : ℕ) (p : PlaceId) (waits : me.0.doing ≡ Waits (request_of i) p) (empty : me.1 ≡ []) (inside : i < count_of_requests plan) (s : St) (k : Rule s) (at : get_elem? s.views id ≡ some me.0) where
    abbrev n : ℕ
    n = word s i

    abbrev v : View
    v = me.0

    abbrev r : RequestId
    r = request_of i

    held : Works plan k.owner s.words id (Waits r p)
    held = subst (Works plan k.owner s.words id) (ap (λ (u : View). u.doing) (at_view s.views id v at).1 ∙ waits) (k.each_seat id)

    on : OnlyOn i v.doing
    on = subst (OnlyOn i) (sym waits) refl

    own : IsAtOwn v.places (Waits r p)
    own = subst (IsAtOwn v.places) waits (subst (λ (u : View). IsAtOwn u.places u.doing) (at_view s.views id v at).1 (k.at_own id))

    waits_there : (q : PlaceId) → k.owner q ≡ id → doing_at s.views k.owner q ≡ Waits r p
    waits_there q o = own_doing plan s k id v q at o ∙ waits

    -- what the hand is told and does, where it then does d
    abbrev Next : Doing → Type 0
    Next d = (a : Act Slot) × Valid s.homes me.1 a × Rule (stepped s i n id me.1 (with_doing v d i n) a) × (carried_after me.1 a ≡ carried_by d)

    permitted : (stop : Bool) → Runs stop p n → (n ≡ running p) ⊎ (n ≡ stopping p) → Next (Serves r p stop)
    permitted stop fits is = let st : LeadState = lead_state_at (view_at s.views k.lead).lead_states i in
        let t = runs (doing_at s.views k.owner) r p st n (home s i) k.few_places held.2 is (waits_there p held.0) (k.each_request i inside) in (
          takes i None,
          home_there s.homes i None t.3,
          hand_moves plan s k id i n me.1 v (with_doing v (Serves r p stop) i n) (takes i None) none at inside refl refl refl refl refl on own
              (λ at' mine theirs st f. permit_fits (doing_at s.views k.owner) at' r p stop st n (home s i) k.few_places held.2 is (waits_there p held.0) (mine p held.0) f)
              (subst (λ (ws : List ℕ). Works plan k.owner ws id (Serves r p stop)) (sym (set-get_or s.words i 0)) (held.0, held.1, held.2, subst (λ (z : ℕ). Runs stop p (word s z)) (let z : i ≡ i + 1 - 1 = omega arith in z) fits))
              (λ stop q near _ h. h)
              refl,
          ap (λ (cs : List (ℕ × Slot)). (i, None) ∷ cs) empty ∙ ap (λ (z : ℕ). (z, None) ∷ []) (let z : i ≡ i + 1 - 1 = omega arith in z),
        )

    stays : n ≡ claimed p → Next (Waits r p)
    stays is = (
      keeps,
      tt,
      hand_moves plan s k id i n me.1 v (with_doing v (Waits r p) i n) keeps (home s i) at inside refl refl refl refl refl on own
          (λ at' mine theirs st f.
          let same : (q : PlaceId) → at' q ≡ doing_at s.views k.owner q = λ q. dite (ℕ_discrete (k.owner q) id) (λ o. mine q o ∙ sym (waits_there q o)) (λ o. theirs q o) in
          fits_on plan (doing_at s.views k.owner) at' r (λ q e. same q ∙ e) (λ q stop e. (stop, same q ∙ e)) st n (home s i) f)
          (subst (λ (ws : List ℕ). Works plan k.owner ws id (Waits r p)) (sym (set-get_or s.words i 0)) held)
          (λ stop q near _ h. h)
          (sym (set-get_or s.homes i none)),
      empty,
    )

    withdrawn : n ≢ running p → n ≢ stopping p → n ≢ claimed p → Next Idle
    withdrawn na nc nd = (
      keeps,
      tt,
      hand_moves plan s k id i n me.1 v (with_doing v Idle i n) keeps (home s i) at inside refl refl refl refl refl on tt
          (λ at' mine theirs st f. idle_fits (doing_at s.views k.owner) at' r p st n (home s i) na nc nd (λ q. dite (ℕ_discrete (k.owner q) id) (λ o. inr (waits_there q o)) (λ o. inl (theirs q o))) f)
          tt
          (λ stop q near _ h. h)
          (sym (set-get_or s.homes i none)),
      empty,
    )

  pub polled_cases : (F : Doing → Type 0) (r : RequestId) (p : PlaceId) (n : ℕ) → (n ≡ running p → F (Serves r p false)) → (n ≡ stopping p → F (Serves r p true)) →
      (n ≡ claimed p → F (Waits r p)) → (n ≢ running p → n ≢ stopping p → n ≢ claimed p → F Idle) → F (polled (Waits r p) n)
  polled_cases F r p n go stop wait no_more = dite (ℕ_discrete n (running p))
      (λ a. subst (λ b. F (if b then Serves r p false else (if n == stopping p then Serves r p true else (if n == claimed p then Waits r p else Idle)))) (sym (eq-eqb n (running p) a)) (go a))
      (λ na. subst (λ b. F (if b then Serves r p false else (if n == stopping p then Serves r p true else (if n == claimed p then Waits r p else Idle)))) (sym (ne_eqb n (running p) na))
      (dite (ℕ_discrete n (stopping p))
      (λ c. subst (λ b. F (if b then Serves r p true else (if n == claimed p then Waits r p else Idle))) (sym (eq-eqb n (stopping p) c)) (stop c))
      (λ nc. subst (λ b. F (if b then Serves r p true else (if n == claimed p then Waits r p else Idle))) (sym (ne_eqb n (stopping p) nc))
      (dite (ℕ_discrete n (claimed p))
      (λ d. subst (λ b. F (if b then Waits r p else Idle)) (sym (eq-eqb n (claimed p) d)) (wait d))
      (λ nd. subst (λ b. F (if b then Waits r p else Idle)) (sym (ne_eqb n (claimed p) nd)) (no_more na nc nd))))))

  pub polls : (slots id : ℕ) (me : Me Slot View) (i : ℕ) (p : PlaceId) → me.0.doing ≡ Waits (request_of i) p → me.1 ≡ [] → i < count_of_requests plan →
      Allows Rule slots id me i (λ n. n) (poll_leaves (step slots i 0 0 none) me)
  polls slots id me i p waits empty inside s k _ at _ =
      let v : View = me.0 in let n : ℕ = word s i in let d : Doing = polled v.doing n in
      let t : Next slots id me i p waits empty inside s k at d = subst (Next slots id me i p waits empty inside s k at) (ap (λ (x : Doing). polled x n) (sym waits))
      (polled_cases (Next slots id me i p waits empty inside s k at) (request_of i) p n
      (λ a. permitted slots id me i p waits empty inside s k at false (inl a) (inl a))
      (λ a. permitted slots id me i p waits empty inside s k at true a (inr a))
      (λ a. stays slots id me i p waits empty inside s k at a)
      (λ na nc nd. withdrawn slots id me i p waits empty inside s k at na nc nd)) in
      (with_doing v d i n, t.0, t.1, t.2, (refl, t.3))

  -- ---- a post

  pub may_leave_more : (r : RequestId) (a b : Bool) (x : Posted) → (a ≡ true → b ≡ true) → MayLeave plan r a x → MayLeave plan r b x
  may_leave_more r a b (Text made) up g = g
  may_leave_more r a b Stopped up g = up g
  may_leave_more r a b NoMemory up g = tt

  either_word : (stop : Bool) (p : PlaceId) (n : ℕ) → Runs stop p n → (n ≡ running p) ⊎ (n ≡ stopping p)
  either_word false p n x = x
  either_word true p n x = inr x

  marks : (m stop : Bool) (p : PlaceId) (n : ℕ) → n ≡ run_word m p → Runs stop p n → stop ≡ true → m ≡ true
  marks true stop p n e x y = refl
  marks false true p n e x y = absurd (omega arith)
  marks false false p n e x y = absurd (cc)

  -- a request that is served at p has the go there, and where it is served with the stop sign it is marked
  pub has_permit : (at : PlaceId → Doing) (r : RequestId) (p : PlaceId) (stop : Bool) (st : LeadState) (n : ℕ) (h : Home) → count_of_places plan ≤ 64 → IsPlace plan p →
      Runs stop p n → Fits plan at r st n h → (m : Bool) × (st ≡ Gone p m) × (n ≡ run_word m p) × (stop ≡ true → m ≡ true)
  has_permit at r p stop st n h few near fits f = let t = gone_at at r p st n h few (omega arith) (either_word stop p n fits) f in
      (t.0, t.1, t.2, marks t.0 stop p n t.2 fits)

  -- a word at which p is served serves no other place
  lone_permit : (stop a : Bool) (p q : PlaceId) (n : ℕ) → count_of_places plan ≤ 64 → IsPlace plan p → IsPlace plan q → Runs stop p n → Runs a q n → p ≡ q
  lone_permit true true p q n few there near x y = place_eq p q (omega arith)
  lone_permit true false p q n few there near x (inl y) = absurd (omega arith)
  lone_permit true false p q n few there near x (inr y) = place_eq p q (omega arith)
  lone_permit false true p q n few there near (inl x) y = absurd (omega arith)
  lone_permit false true p q n few there near (inr x) y = place_eq p q (omega arith)
  lone_permit false false p q n few there near (inl x) (inl y) = place_eq p q (omega arith)
  lone_permit false false p q n few there near (inl x) (inr y) = absurd (omega arith)
  lone_permit false false p q n few there near (inr x) (inl y) = absurd (omega arith)
  lone_permit false false p q n few there near (inr x) (inr y) = place_eq p q (omega arith)

  -- what the rule says of the seat that serves this request
  serving : (s : St) (k : Rule s) (id i : ℕ) (v : View) (p : PlaceId) (stop : Bool) → get_elem? s.views id ≡ some v → v.doing ≡ Serves (request_of i) p stop →
      (k.owner p ≡ id) × IsRequest plan (request_of i) × IsPlace plan p × Runs stop p (word s i)
  serving s k id i v p stop at serves =
      let t : Works plan k.owner s.words id (Serves (request_of i) p stop) = subst (Works plan k.owner s.words id) (ap (λ (u : View). u.doing) (at_view s.views id v at).1 ∙ serves) (k.each_seat id) in
      (t.0, t.1, t.2, subst (λ (z : ℕ). Runs stop p (word s z)) (let z : i + 1 - 1 ≡ i = omega arith in z) t.3)

  pub posts : (slots id : ℕ) (me : Me Slot View) (i : ℕ) (p : PlaceId) (stop : Bool) (x : Posted) → me.0.doing ≡ Serves (request_of i) p stop → me.1 ≡ (i, Some x) ∷ [] →
      MayLeave plan (request_of i) stop x → i < count_of_requests plan →
      Allows Rule slots id me i (λ _. ended p) (post_leaves (step slots i (ended p) 0 none) me)
  posts slots id me i p stop x serves carries may inside s k _ at _ =
      let v : View = me.0 in let n : ℕ = word s i in let w : View = with_post (with_doing v Idle i n) i x in let few = k.few_places in
      let held = serving s k id i v p stop at serves in
      let on : OnlyOn i v.doing = subst (OnlyOn i) (sym serves) refl in (
        w,
        gives,
        tt,
        hand_moves plan s k id i (ended p) me.1 v w gives (some (Some x)) at inside refl refl refl refl refl on tt
            (λ at' mine theirs st f. let t = has_permit (doing_at s.views k.owner) (request_of i) p stop st n (home s i) few held.2 held.3 f in
            subst (λ (z : LeadState). Fits plan at' (request_of i) z (ended p) (some (Some x))) (sym t.1) (held.2, inr (refl, (x, refl, may_leave_more (request_of i) stop t.0 x t.3 may))))
            tt
            (λ a q near other h. absurd (other (ap k.owner (sym (lone_permit stop a p q n few held.2 near held.3 h)) ∙ held.0)))
            (ap (λ (cs : List (ℕ × Slot)). put_back s.homes cs) carries),
        (sym (ap (with_left (with_doing v Idle i n)) carries), refl, subst (λ (z : Doing). ServedFits z n) (sym serves) held.3),
      )

  -- ---- the stop sign

  pub warned_cases : (F : Doing → Type 0) (r : RequestId) (p : PlaceId) (n : ℕ) (stop : Bool) → (n ≡ stopping p → F (Serves r p true)) → (n ≢ stopping p → F (Serves r p stop)) →
      F (warned (Serves r p stop) n)
  warned_cases F r p n stop hit miss = dite (ℕ_discrete n (stopping p))
      (λ e. subst (λ b. F (if b then Serves r p true else Serves r p stop)) (sym (eq-eqb n (stopping p) e)) (hit e))
      (λ ne. subst (λ b. F (if b then Serves r p true else Serves r p stop)) (sym (ne_eqb n (stopping p) ne)) (miss ne))

  pub warns : (slots id : ℕ) (me : Me Slot View) (i : ℕ) (p : PlaceId) (stop : Bool) → me.0.doing ≡ Serves (request_of i) p stop → i < count_of_requests plan →
      Allows Rule slots id me i (λ n. n) (warn_leaves (step slots i 0 0 none) me)
  warns slots id me i p stop serves inside s k _ at _ =
      let v : View = me.0 in let n : ℕ = word s i in let r : RequestId = request_of i in let d : Doing = warned v.doing n in let w : View = with_doing v d i n in
      let held = serving s k id i v p stop at serves in
      let on : OnlyOn i v.doing = subst (OnlyOn i) (sym serves) refl in
      let own : IsAtOwn v.places (Serves r p stop) = subst (IsAtOwn v.places) serves (subst (λ (u : View). IsAtOwn u.places u.doing) (at_view s.views id v at).1 (k.at_own id)) in
      let t : (b : Bool) × (d ≡ Serves r p b) × Runs b p n = subst (λ (x : Doing). (b : Bool) × (warned x n ≡ Serves r p b) × Runs b p n) (sym serves)
      (warned_cases (λ x. (b : Bool) × (x ≡ Serves r p b) × Runs b p n) r p n stop (λ e. (true, refl, e)) (λ _. (stop, refl, held.3))) in (
        w,
        keeps,
        tt,
        hand_moves plan s k id i n me.1 v w keeps (home s i) at inside refl refl refl refl refl on (subst (IsAtOwn v.places) (sym t.1) own)
            (λ at' mine theirs st f. fits_on plan (doing_at s.views k.owner) at' r
            (λ q e. dite (ℕ_discrete (k.owner q) id) (λ o. absurd (let a : Serves r p stop ≡ Waits r q = sym (own_doing plan s k id v q at o ∙ serves) ∙ e in cc)) (λ o. theirs q o ∙ e))
            (λ q b e. dite (ℕ_discrete (k.owner q) id)
            (λ o. (t.0, mine q o ∙ (t.1 ∙ (let a : Serves r p stop ≡ Serves r q b = sym (own_doing plan s k id v q at o ∙ serves) ∙ e in let c : p ≡ q = cc in λ i. Serves r (c i) t.0)))) (λ o. (b, theirs q o ∙ e)))
            st n (home s i) f)
            (subst (λ (z : List ℕ × Doing). Works plan k.owner z.0 id z.1) (λ x. (sym (set-get_or s.words i 0) x, sym t.1 x))
            (held.0, held.1, held.2, subst (λ (z : ℕ). Runs t.0 p (word s z)) (let z : i ≡ i + 1 - 1 = omega arith in z) t.2))
            (λ a q near _ h. h)
            (sym (set-get_or s.homes i none)),
        (refl, refl, subst (λ (z : Doing). ServedFits z n) (sym serves) held.3),
      )

  -- ---- the same, where the numbers are called otherwise

  pub claims_by : (slots id : ℕ) (me : Me Slot View) (i : ℕ) (q : PlaceId) (x : ℕ) → x ≡ claimed q → i < count_of_requests plan → IsPlace plan q → has me.0.places q ≡ true →
      me.0.doing ≡ Idle → Allows Rule slots id me i (λ n. either (eqb n 1) x n) (claim_leaves (step slots i 1 x none) me)
  claims_by slots id me i q x e inside near owns idle = subst (λ (z : ℕ). Allows Rule slots id me i (λ n. either (eqb n 1) z n) (claim_leaves (step slots i 1 z none) me)) (sym e)
      (claims slots id me i q inside near owns idle)

  pub posts_by : (slots id : ℕ) (me : Me Slot View) (i : ℕ) (p : PlaceId) (stop : Bool) (left : Posted) (x : ℕ) → x ≡ ended p → me.0.doing ≡ Serves (request_of i) p stop →
      me.1 ≡ (i, Some left) ∷ [] → MayLeave plan (request_of i) stop left → i < count_of_requests plan →
      Allows Rule slots id me i (λ _. x) (post_leaves (step slots i x 0 none) me)
  posts_by slots id me i p stop left x e serves carries may inside = subst (λ (z : ℕ). Allows Rule slots id me i (λ _. z) (post_leaves (step slots i z 0 none) me)) (sym e)
      (posts slots id me i p stop left serves carries may inside)
