-- Views looked up, the lead states of the lead, and what the facts of one request rest on.
use Rattle.std.proofs.Common.{◌≡◌, ℕ, zero, suc, ◌+◌, ◌/◌, ◌<◌, ◌≤◌, ◌≢◌, ◌⊎◌, ◌==◌, ◌&&◌, ◌||◌, not, if◌then◌else◌, Bool, true, false, List, [], ◌∷◌, length, get_or, set, sym, refl, ap, ◌∙◌, subst, inl, inr, ⊎_elim, arith, replicate, get_or-set_other, get_or-set_same, eq-eqb, ne_eqb, Option, Some, None}
use mathlib.Core.Logic.{dite}
use mathlib.Core.Option.{some, some-ne-none, some-injective}
use native.Mathlib.Decide.{ℕ_discrete}
use lib.ListN.{get_elem?}
use Rattle.conc_types.specs.declared.event.PlaceId.{PlaceId}
use Rattle.conc_types.specs.declared.event.RequestId.{RequestId}
use Rattle.conc_types.specs.declared.plan.Plan.{Plan}
use Rattle.conc_types.specs.declared.plan.Req.{Req}
use Rattle.conc_types.specs.Plans.{request}
use Rattle.conc_types.specs.Words.{some_and}
use Rattle.conc_base_law.specs.Exclusion.{excludes, excludes_from, is_kin}
use Rattle.conc_base_law.specs.Places.{count_of_places}
use Rattle.conc_base_law.specs.Plans.{are_exclusive, parent_item}
use Rattle.conc_base_law.proofs.Symmetry.{excludes_comm}
use Rattle.conc_pool_seats.specs.declared.posted.Posted.{Posted}
use Rattle.conc_pool_seats.specs.declared.views.Doing.{Doing}
use Rattle.conc_pool_seats.specs.declared.views.Doing.TheVariants.{Waits, Serves}
use Rattle.conc_pool_seats.specs.declared.views.LeadState.{LeadState}
use Rattle.conc_pool_seats.specs.declared.views.LeadState.TheVariants.{NotLet, Let, Seen, Gone, Got, Done}
use Rattle.conc_pool_seats.specs.declared.views.View.{View}
use Rattle.conc_pool_seats.specs.Rule.{AreApart, Fits, Home, Runs, exclude, home_at, nobody, view_at}
use Rattle.conc_pool_seats.specs.LeadStates.{IsLet, IsLive, WordFits, lead_state_at, looked}
use Rattle.conc_pool_seats.specs.Steps.{HasPlace, LookFits}
use Rattle.conc_pool_seats.specs.Words.{IsPlace, claimed, place_in, request_of}

-- ---- requests and places

pub place_eq : (p q : PlaceId) → p.index ≡ q.index → p ≡ q
place_eq p q e = λ i. record { index = e i }

pub request_eq : (r q : RequestId) → r.number ≡ q.number → r ≡ q
request_eq r q e = λ i. record { number = e i }

-- requests with two words are two
pub request_of-ne : (i j : ℕ) → i ≢ j → request_of i ≢ request_of j
request_of-ne i j other e = other (let n : i + 1 ≡ j + 1 = ap (λ (r : RequestId). r.number) e in omega arith)

-- ---- exclusion

are_exclusive_comm : (plan : Plan) (x y : Req) → are_exclusive plan x y ≡ are_exclusive plan y x
unfolding are_exclusive
are_exclusive_comm plan x y = excludes_comm plan.setup x y (parent_item plan x) (parent_item plan y)

both_comm : (f : Req → Req → Bool) → ((x y : Req) → f x y ≡ f y x) → (a b : Option Req) →
    some_and (λ x. some_and (λ y. f x y) b) a ≡ some_and (λ y. some_and (λ x. f y x) a) b
both_comm f comm None None = refl
both_comm f comm None (Some y) = refl
both_comm f comm (Some x) None = refl
both_comm f comm (Some x) (Some y) = comm x y

pub exclude_comm : (plan : Plan) (r q : RequestId) → exclude plan r q ≡ exclude plan q r
exclude_comm plan r q = both_comm (are_exclusive plan) (are_exclusive_comm plan) (request plan r) (request plan q)

-- no request excludes itself
same_number : (n : ℕ) → (n == n) ≡ true
same_number n = eq-eqb n n refl

not_itself : (plan : Plan) (x : Req) → are_exclusive plan x x ≡ false
unfolding are_exclusive excludes
not_itself plan x = ap (λ b. not b && (not (is_kin x x) && (excludes_from plan.setup x x (parent_item plan x) || excludes_from plan.setup x x (parent_item plan x)))) (same_number x.number.number)

pub exclude-self : (plan : Plan) (r : RequestId) → exclude plan r r ≡ false
exclude-self plan r = go (request plan r)
  where
    go : (o : Option Req) → some_and (λ x. some_and (λ y. are_exclusive plan x y) o) o ≡ false
    go None = refl
    go (Some x) = not_itself plan x

-- ---- views

pub at_view : (vs : List View) (j : ℕ) (v : View) → get_elem? vs j ≡ some v → (j < length vs) × (view_at vs j ≡ v)
at_view [] j v e = absurd (some-ne-none v (sym e))
at_view (x ∷ xs) zero v e = (omega arith, some-injective x v e)
at_view (x ∷ xs) (suc j) v e = let t = at_view xs j v e in let near = t.0 in (omega arith, t.1)

pub replicate_at : {A : Type 0} (n i : ℕ) (d : A) → get_or (replicate n d) i d ≡ d
replicate_at zero i d = refl
replicate_at (suc n) zero d = refl
replicate_at (suc n) (suc i) d = replicate_at n i d

pub home_there : (hs : List Home) (i : ℕ) (y : Option Posted) → home_at hs i ≡ some y → get_elem? hs i ≡ some (some y)
home_there [] i y e = absurd (some-ne-none y (sym e))
home_there (h ∷ hs) zero y e = ap some e
home_there (h ∷ hs) (suc i) y e = home_there hs i y e

-- a part of the views that a step leaves as it was
pub same_part : {A : Type 0} (f : View → A) (vs : List View) (id : ℕ) (v w : View) → get_elem? vs id ≡ some v → f w ≡ f v →
    (j : ℕ) → f (view_at (set vs id w) j) ≡ f (view_at vs j)
same_part f vs id v w at e j = let here = at_view vs id v at in dite (ℕ_discrete j id)
    (λ is. let a : view_at (set vs id w) j ≡ w = ap (λ (k : ℕ). view_at (set vs id w) k) is ∙ get_or-set_same vs id w nobody here.0 in
    let b : v ≡ view_at vs j = sym (ap (λ (k : ℕ). view_at vs k) is ∙ here.1) in ap f a ∙ (e ∙ ap f b))
    (λ other. ap f (get_or-set_other vs id j w nobody other))

-- ---- lead states

-- one request more is live, which excludes none that is
pub apart_more : (plan : Plan) (ss : List LeadState) (i : ℕ) (st : LeadState) → AreApart plan ss →
    ((j : ℕ) → IsLive (lead_state_at ss j) → exclude plan (request_of i) (request_of j) ≡ false) → AreApart plan (set ss i st)
apart_more plan ss i st apart alone x y ne lx ly = dite (ℕ_discrete x i)
    (λ (e : x ≡ i). ap (λ (z : ℕ). exclude plan (request_of z) (request_of y)) e ∙ alone y (subst IsLive (get_or-set_other ss i y st NotLet (λ (f : y ≡ i). ne (e ∙ sym f))) ly))
    (λ other. dite (ℕ_discrete y i)
    (λ (e : y ≡ i). exclude_comm plan (request_of x) (request_of y) ∙ (ap (λ (z : ℕ). exclude plan (request_of z) (request_of x)) e ∙ alone x (subst IsLive (get_or-set_other ss i x st NotLet other) lx)))
    (λ (f : y ≢ i). apart x y ne (subst IsLive (get_or-set_other ss i x st NotLet other) lx) (subst IsLive (get_or-set_other ss i y st NotLet f) ly)))

-- no request more is live
pub apart_same : (plan : Plan) (ss : List LeadState) (i : ℕ) (st : LeadState) → AreApart plan ss → (IsLive st → IsLive (lead_state_at ss i)) → i < length ss →
    AreApart plan (set ss i st)
apart_same plan ss i st apart live inside x y ne lx ly = apart x y ne (back x lx) (back y ly)
  where
    back : (q : ℕ) → IsLive (lead_state_at (set ss i st) q) → IsLive (lead_state_at ss q)
    back q l = dite (ℕ_discrete q i)
        (λ (e : q ≡ i). subst (λ (z : ℕ). IsLive (lead_state_at ss z)) (sym e) (live (subst IsLive (ap (λ (z : ℕ). lead_state_at (set ss i st) z) e ∙ get_or-set_same ss i st NotLet inside) l)))
        (λ other. subst IsLive (get_or-set_other ss i q st NotLet other) l)

pub looked_live : (st : LeadState) (n : ℕ) → IsLive (looked st n) → IsLive st
looked_live NotLet n h = h
looked_live Let n h = tt
looked_live (Seen p) n h = h
looked_live (Gone p m) n h = h
looked_live (Got p m) n h = h
looked_live (Done m) n h = h

-- ---- the facts of one request

module _ (plan : Plan) where
  -- what they ask of the owners of places
  pub fits_on : (at at' : PlaceId → Doing) (r : RequestId) → ((p : PlaceId) → at p ≡ Waits r p → at' p ≡ Waits r p) →
      ((p : PlaceId) (stop : Bool) → at p ≡ Serves r p stop → (stop' : Bool) × (at' p ≡ Serves r p stop')) →
      (st : LeadState) (w : ℕ) (h : Home) → Fits plan at r st w h → Fits plan at' r st w h
  fits_on at at' r waits serves NotLet w h f = f
  fits_on at at' r waits serves Let w h (inl e, home) = (inl e, home)
  fits_on at at' r waits serves Let w h (inr e, home) = (inr (e.0, e.1, e.2, waits e.0 e.3), home)
  fits_on at at' r waits serves (Seen p) w h f = (f.0, f.1, waits p f.2, f.3)
  fits_on at at' r waits serves (Gone p m) w h (near, inl (e, inl d)) = (near, inl (e, inl (waits p d.0, d.1)))
  fits_on at at' r waits serves (Gone p m) w h (near, inl (e, inr d)) = let t = serves p d.0 d.1 in (near, inl (e, inr (t.0, t.1, d.2)))
  fits_on at at' r waits serves (Gone p m) w h (near, inr e) = (near, inr e)
  fits_on at at' r waits serves (Got p m) w h f = f
  fits_on at at' r waits serves (Done m) w h f = f

  -- the word was neither Running nor Stopping
  pub no_permit : (w n : ℕ) → count_of_places plan ≤ 64 → (w < 512) ⊎ (1024 ≤ w) → (stop : Bool) (p : PlaceId) → IsPlace plan p → Runs stop p w → Runs stop p n
  no_permit w n few out true p near e = absurd (⊎_elim (λ l. omega arith) (λ l. omega arith) out)
  no_permit w n few out false p near (inl e) = absurd (⊎_elim (λ l. omega arith) (λ l. omega arith) out)
  no_permit w n few out false p near (inr e) = absurd (⊎_elim (λ l. omega arith) (λ l. omega arith) out)

  pub looked_fits : (at : PlaceId → Doing) (r : RequestId) → count_of_places plan ≤ 64 → (st : LeadState) (n : ℕ) (h : Home) → Fits plan at r st n h → Fits plan at r (looked st n) n h
  looked_fits at r few NotLet n h f = f
  looked_fits at r few Let n h (inl e, home) = subst (λ b. Fits plan at r (if b then Seen (place_in 256 n) else Let) n h) (sym (ne_eqb (n / 256) 1 (λ x. omega arith))) (inl e, home)
  looked_fits at r few Let n h (inr t, home) =
      let near = t.1 in let e = t.2 in let is : t.0 ≡ place_in 256 n = place_eq t.0 (place_in 256 n) (omega arith) in
      subst (λ b. Fits plan at r (if b then Seen (place_in 256 n) else Let) n h) (sym (eq-eqb (n / 256) 1 (omega arith)))
      (subst (λ (q : PlaceId). IsPlace plan q × (n ≡ claimed q) × (at q ≡ Waits r q) × (h ≡ some None)) is (t.1, t.2, t.3, home))
  looked_fits at r few (Seen p) n h f = f
  looked_fits at r few (Gone p m) n h f = f
  looked_fits at r few (Got p m) n h f = f
  looked_fits at r few (Done m) n h f = f

  -- a request that is let out and has no go
  pub let_free : (at : PlaceId → Doing) (r : RequestId) → count_of_places plan ≤ 64 → (st : LeadState) (n : ℕ) (h : Home) → IsLet st → Fits plan at r st n h → (h ≡ some None) × (n < 512)
  let_free at r few NotLet n h is f = absurd is
  let_free at r few Let n h is (inl e, home) = (home, omega arith)
  let_free at r few Let n h is (inr t, home) = let near = t.1 in let e = t.2 in (home, omega arith)
  let_free at r few (Seen p) n h is f = let near = f.0 in let e = f.1 in (f.3, omega arith)
  let_free at r few (Gone p m) n h is f = absurd is
  let_free at r few (Got p m) n h is f = absurd is
  let_free at r few (Done m) n h is f = absurd is

  -- the word fits the lead state
  pub word_fits : (at : PlaceId → Doing) (r : RequestId) (st : LeadState) (n : ℕ) (h : Home) → Fits plan at r st n h → WordFits st n
  word_fits at r NotLet n h f = f.0
  word_fits at r Let n h (inl e, home) = inl e
  word_fits at r Let n h (inr t, home) = inr (t.0, t.2)
  word_fits at r (Seen p) n h f = f.1
  word_fits at r (Gone p true) n h (near, inl e) = inr (inl e.0)
  word_fits at r (Gone p false) n h (near, inl e) = inl e.0
  word_fits at r (Gone p m) n h (near, inr e) = inr (inr e.0)
  word_fits at r (Got p m) n h f = f.1
  word_fits at r (Done m) n h f = f.0

  -- a request that was not seen claimed is Released
  look_fits-let : (at : PlaceId → Doing) (r : RequestId) → count_of_places plan ≤ 64 → (n : ℕ) (h : Home) → Fits plan at r Let n h → LookFits (looked Let n) n
  look_fits-let at r few n h (inl e, home) = subst (λ b. LookFits (if b then Seen (place_in 256 n) else Let) n) (sym (ne_eqb (n / 256) 1 (λ x. omega arith))) e
  look_fits-let at r few n h (inr t, home) = let near = t.1 in let e = t.2 in
      subst (λ b. LookFits (if b then Seen (place_in 256 n) else Let) n) (sym (eq-eqb (n / 256) 1 (omega arith))) (omega arith)

  pub look_fits : (at : PlaceId → Doing) (r : RequestId) → count_of_places plan ≤ 64 → (st : LeadState) (n : ℕ) (h : Home) → Fits plan at r st n h → LookFits (looked st n) n
  look_fits at r few NotLet n h f = word_fits at r NotLet n h f
  look_fits at r few Let n h f = look_fits-let at r few n h f
  look_fits at r few (Seen p) n h f = word_fits at r (Seen p) n h f
  look_fits at r few (Gone p m) n h f = word_fits at r (Gone p m) n h f
  look_fits at r few (Got p m) n h f = word_fits at r (Got p m) n h f
  look_fits at r few (Done m) n h f = word_fits at r (Done m) n h f

  -- its place is one of the plan
  pub has_place : (at : PlaceId → Doing) (r : RequestId) (known : Option Plan) (st : LeadState) (n : ℕ) (h : Home) → known ≡ Some plan → Fits plan at r st n h → HasPlace known st
  has_place at r known st n h knows f = subst (λ (o : Option Plan). HasPlace o st) (sym knows) (go st f)
    where
      go : (st : LeadState) → Fits plan at r st n h → HasPlace (Some plan) st
      go NotLet f = tt
      go Let f = tt
      go (Seen p) f = f.0
      go (Gone p m) f = f.0
      go (Got p m) f = tt
      go (Done m) f = tt
