-- One value for each request of a plan: where one request's value changes, one slot is written.
use Rattle.std.proofs.Common.{◌≡◌, ℕ, zero, suc, ◌+◌, ◌<◌, ◌≤◌, Bool, List, [], ◌∷◌, length, map, set, Option, None, Some, refl, sym, ◌∙◌, ap, inl, inr, arith}
use Rattle.std.specs.Prelude.{slice_get, unwrap_or}
use Rattle.std.specs.Bool.{then_some}
use Rattle.std.proofs.lemmas.Option.{slice_get_within}
use Rattle.conc_types.specs.declared.facts.Facts.{Facts}
use Rattle.conc_types.specs.declared.facts.State.{State}
use Rattle.conc_types.specs.declared.plan.Plan.{Plan}
use Rattle.conc_types.specs.declared.plan.Req.{Req}
use Rattle.conc_types.specs.Plans.{request}
use Rattle.conc_types.specs.Words.{numbered}
use Rattle.conc_base_law.specs.State.{facts_at, no_facts}
use Rattle.conc_base_law.specs.Words.{Has}
use Rattle.conc_base_law.proofs.Numbering.{found, numbered-at, numbered_plan}
use Rattle.conc_event_queue.specs.Least.{vacant}
use Rattle.conc_event_queue.specs.Turns.{numbers_of}
use Rattle.conc_event_queue.specs.Written.{IsAlike, IsWritten}

-- ---- an element and its place

-- the element that is written is read
pub slice_get-set_same : {T : Type 0} (xs : List T) (i : ℕ) (x y : T) → slice_get xs i ≡ Some x → slice_get (set xs i y) i ≡ Some y
slice_get-set_same [] i x y h = cc
slice_get-set_same (z ∷ zs) zero x y h = refl
slice_get-set_same (z ∷ zs) (suc i) x y h = slice_get-set_same zs i x y h

-- the other elements stay
pub slice_get-set_other : {T : Type 0} (xs : List T) (i k : ℕ) (y : T) → (k ≡ i → ⊥) → slice_get (set xs i y) k ≡ slice_get xs k
slice_get-set_other [] i k y h = refl
slice_get-set_other (z ∷ zs) zero zero y h = absurd (h refl)
slice_get-set_other (z ∷ zs) zero (suc k) y h = refl
slice_get-set_other (z ∷ zs) (suc i) zero y h = refl
slice_get-set_other (z ∷ zs) (suc i) (suc k) y h = slice_get-set_other zs i k y (λ e. h (ap (λ n. suc n) e))

-- the request at a place of a plan has the number after it
pub request_at_place : (plan : Plan) (k : ℕ) (r : Req) → slice_get plan.requests k ≡ Some r → (r.number.number ≡ k + 1) × Has plan.requests r
unfolding request
request_at_place plan k r h = found plan (record { number = k + 1 }) r (numbered-at plan.requests (k + 1) k (omega arith) ∙ h)

-- a request of a plan stands at the place before its number
pub place_of_request : (plan : Plan) (r : Req) → Has plan.requests r
    → (k : ℕ) × (slice_get plan.requests k ≡ Some r) × (r.number.number ≡ k + 1)
unfolding request
place_of_request plan r has = by r.number.number refl (numbered_plan plan r has) where
  by : (n : ℕ) → r.number.number ≡ n → numbered plan.requests n ≡ Some r → (k : ℕ) × (slice_get plan.requests k ≡ Some r) × (r.number.number ≡ k + 1)
  by zero e h = cc
  by (suc k) e h = (k, sym (numbered-at plan.requests (suc k) k (omega arith)) ∙ h, omega arith)

-- the numbers of a plan's requests are few
pub number_few : (plan : Plan) (r : Req) → Has plan.requests r → r.number.number ≤ 16384
number_few plan r has =
    let p : (k : ℕ) × (slice_get plan.requests k ≡ Some r) × (r.number.number ≡ k + 1) = place_of_request plan r has in
    let within : p.0 < length plan.requests = slice_get_within plan.requests p.0 r p.1 in
    omega (arith, p.2, plan.few)

-- ---- maps

-- two functions that agree on the elements give one list
map-same : {A B : Type 0} (f g : A → B) (xs : List A) → ((x : A) → Has xs x → g x ≡ f x) → map g xs ≡ map f xs
map-same f g [] h = refl
map-same f g (x ∷ xs) h = rw (h x (inl refl)) (ap (λ l. f x ∷ l) (map-same f g xs (λ y has. h y (inr has))))

-- two functions that agree but at one place
map-set_place : {A B : Type 0} (f g : A → B) (xs : List A) (i : ℕ) (x : A) → slice_get xs i ≡ Some x
    → ((k : ℕ) (y : A) → slice_get xs k ≡ Some y → (k ≡ i → ⊥) → g y ≡ f y)
    → map g xs ≡ set (map f xs) i (g x)
map-set_place f g [] i x h same = cc
map-set_place f g (z ∷ zs) zero x h same = let e : z ≡ x = cc in rw e (ap (λ l. g x ∷ l) (later zs (λ k y at. same (suc k) y at (λ (n : suc k ≡ 0). absurd (omega arith))))) where
  later : (ys : List _) → ((k : ℕ) (y : _) → slice_get ys k ≡ Some y → g y ≡ f y) → map g ys ≡ map f ys
  later [] h = refl
  later (y ∷ ys) h = rw (h 0 y refl) (ap (λ l. f y ∷ l) (later ys (λ k w at. h (suc k) w at)))
map-set_place f g (z ∷ zs) (suc i) x h same =
    rw (same 0 z refl (λ (n : 0 ≡ suc i). absurd (omega arith)))
    (ap (λ l. f z ∷ l) (map-set_place f g zs i x h (λ k y at ne. same (suc k) y at (λ (e : suc k ≡ suc i). ne (omega arith)))))

-- each request's value stays
pub map-alike : {B : Type 0} (plan : Plan) (f g : Req → B) → ((q : Req) → Has plan.requests q → g q ≡ f q)
    → map g plan.requests ≡ map f plan.requests
map-alike plan f g same = map-same f g plan.requests same

-- one request's value changes: one slot is written
pub map-written : {B : Type 0} (plan : Plan) (f g : Req → B) (i : ℕ) (r : Req) → slice_get plan.requests i ≡ Some r
    → ((q : Req) → Has plan.requests q → (q.number.number ≡ i + 1 → ⊥) → g q ≡ f q)
    → map g plan.requests ≡ set (map f plan.requests) i (g r)
map-written plan f g i r h same = map-set_place f g plan.requests i r h (λ k q at ne.
    let p : (q.number.number ≡ k + 1) × Has plan.requests q = request_at_place plan k q at in
    same q p.1 (λ (e : q.number.number ≡ i + 1). ne (omega (arith, p.0))))

-- ---- what stands

-- the n-th, where it is not the one that is written
numbered-set_other : {T : Type 0} (xs : List T) (i n : ℕ) (y : T) → (n ≡ i + 1 → ⊥) → numbered (set xs i y) n ≡ numbered xs n
numbered-set_other xs i zero y h = refl
numbered-set_other xs i (suc k) y h =
    numbered-at (set xs i y) (suc k) k (omega arith)
    ∙ slice_get-set_other xs i k y (λ (e : k ≡ i). h (omega arith))
    ∙ sym (numbered-at xs (suc k) k (omega arith))

-- the facts of another request stay
pub facts_at-written : (plan : Plan) (before after : State) (i : ℕ) (old : Facts) → IsWritten plan before after i old
    → (q : Req) → (q.number.number ≡ i + 1 → ⊥) → facts_at after q ≡ facts_at before q
unfolding facts_at
facts_at-written plan before after i old w q ne =
    ap (λ l. unwrap_or (numbered l q.number.number) no_facts) w.facts
    ∙ ap (λ o. unwrap_or o no_facts) (numbered-set_other before.facts i q.number.number w.own ne)

-- the facts of the request that is written, before
pub facts_at-before : (plan : Plan) (before after : State) (i : ℕ) (old : Facts) → IsWritten plan before after i old
    → (r : Req) → slice_get plan.requests i ≡ Some r → facts_at before r ≡ old
unfolding facts_at
facts_at-before plan before after i old w r h =
    let p : (r.number.number ≡ i + 1) × Has plan.requests r = request_at_place plan i r h in
    ap (λ o. unwrap_or o no_facts) (numbered-at before.facts r.number.number i (omega (arith, p.0)) ∙ w.was)

-- where the same facts stand, each request's facts are the same
pub facts_at-alike : (before after : State) → IsAlike before after → (q : Req) → facts_at after q ≡ facts_at before q
unfolding facts_at
facts_at-alike before after same q = ap (λ l. unwrap_or (numbered l q.number.number) no_facts) same.facts

-- ---- keys of those that pass

-- where no request has a key, all slots are vacant
pub map-vacant : (f : Req → Option ℕ) (xs : List Req) → ((q : Req) → Has xs q → f q ≡ None) → map f xs ≡ vacant (length xs)
unfolding vacant
map-vacant f [] none = refl
map-vacant f (x ∷ xs) none = rw (none x (inl refl)) (ap (λ l. None ∷ l) (map-vacant f xs (λ q has. none q (inr has))))

-- one request passes or passes no more: one number is written
pub numbers_of-written : (plan : Plan) (f g : Req → Bool) (i : ℕ) (r : Req) → slice_get plan.requests i ≡ Some r
    → ((q : Req) → Has plan.requests q → (q.number.number ≡ i + 1 → ⊥) → g q ≡ f q)
    → numbers_of g plan.requests ≡ set (numbers_of f plan.requests) i (then_some (g r) r.number.number)
unfolding numbers_of
numbers_of-written plan f g i r h same =
    map-written plan (λ q. then_some (f q) q.number.number) (λ q. then_some (g q) q.number.number) i r h
    (λ q has ne. ap (λ b. then_some b q.number.number) (same q has ne))

pub numbers_of-alike : (plan : Plan) (f g : Req → Bool) → ((q : Req) → Has plan.requests q → g q ≡ f q)
    → numbers_of g plan.requests ≡ numbers_of f plan.requests
unfolding numbers_of
numbers_of-alike plan f g same =
    map-alike plan (λ q. then_some (f q) q.number.number) (λ q. then_some (g q) q.number.number) (λ q has. ap (λ b. then_some b q.number.number) (same q has))
