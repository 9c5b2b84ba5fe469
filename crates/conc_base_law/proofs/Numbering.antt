-- The requests of a plan are numbered in order, from 1, and each is found by its number.
use Rattle.std.proofs.Common.{◌≡◌, ℕ, zero, suc, ◌+◌, Bool, true, ◌&&◌, ◌==◌, List, [], ◌∷◌, ◌++◌, length, Some, eqb, refl, sym, ◌∙◌, ap, inl, inr, arith}
use Rattle.std.specs.Prelude.{slice_get}
use Rattle.std.specs.List.{enumerate_from, flat_map}
use Rattle.std.proofs.lemmas.Bool.{and_from, and_parts, eq-eqb, eqb-true, ne_eqb}
use Rattle.conc_types.specs.declared.event.RequestId.{RequestId}
use Rattle.conc_types.specs.declared.plan.Plan.{Plan}
use Rattle.conc_types.specs.declared.plan.Req.{Req}
use Rattle.conc_types.specs.declared.script.Act.{Act}
use Rattle.conc_types.specs.declared.script.Act.TheVariants as act
use Rattle.conc_types.specs.declared.script.Order.{Order}
use Rattle.conc_types.specs.declared.setup.Setup.{Setup}
use Rattle.conc_types.specs.Expansion.{entered, expansion_from, Part, parts_by, request_by}
use Rattle.conc_types.specs.Plans.{request}
use Rattle.conc_types.specs.Words.{numbered}
use Rattle.conc_base_law.specs.Plans.{AreNumbered}
use Rattle.conc_base_law.specs.Words.{Has}

-- the numbers of the requests rise by one, from n on
abbrev pub are_numbered_from : ℕ → List Req → Bool
are_numbered_from n [] = true
are_numbered_from n (r ∷ rs) = r.number.number == n && are_numbered_from (n + 1) rs

-- ---- those of an expansion are

-- two lists that are numbered on are numbered as one
are_numbered_from-append : (n m : ℕ) (xs ys : List Req) → are_numbered_from n xs ≡ true → m ≡ n + length xs → are_numbered_from m ys ≡ true
    → are_numbered_from n (xs ++ ys) ≡ true
are_numbered_from-append n m [] ys h e k = let same : n ≡ m = omega arith in ap (λ i. are_numbered_from i ys) same ∙ k
are_numbered_from-append n m (x ∷ xs) ys h e k =
    let p : (eqb x.number.number n ≡ true) × (are_numbered_from (n + 1) xs ≡ true) = and_parts _ _ h in
    and_from _ _ p.0 (are_numbered_from-append (n + 1) m xs ys p.1 (omega arith) k)

-- the requests with these numbers, one for each part
abbrev AreFor : ℕ → List Part → List Req → Type 0
AreFor n parts requests = (are_numbered_from n requests ≡ true) × (length requests ≡ length parts)

-- a command enters one request for each part
entered_each : (setup : Setup) (command first n : ℕ) (a : Act) (parts : List Part) → ((part : ℕ × Part) → (r : Req) × (request_by setup command first a part ≡ r ∷ []) × (r.number.number ≡ part.0))
    → AreFor n parts (flat_map (request_by setup command first a) (enumerate_from n parts))
entered_each setup command first n a [] one = (refl, refl)
entered_each setup command first n a (p ∷ parts) one =
    let q : (r : Req) × (request_by setup command first a (n, p) ≡ r ∷ []) × (r.number.number ≡ n) = one (n, p) in
    let later : AreFor (n + 1) parts (flat_map (request_by setup command first a) (enumerate_from (n + 1) parts)) = entered_each setup command first (n + 1) a parts one in
    let rest : List Req = flat_map (request_by setup command first a) (enumerate_from (n + 1) parts) in
    let here : request_by setup command first a (n, p) ++ rest ≡ q.0 ∷ rest = ap (λ l. l ++ rest) q.1 in
    (ap (are_numbered_from n) here ∙ and_from _ _ (eq-eqb _ _ q.2) later.0, ap length here ∙ ap (λ k. suc k) later.1)

-- each command enters one request for each part that it has
entered_act : (setup : Setup) (command first : ℕ) (a : Act) → AreFor first (parts_by setup a) (flat_map (request_by setup command first a) (enumerate_from first (parts_by setup a)))
entered_act setup command first (act.Submit what user priority start domain argument) =
    entered_each setup command first first (act.Submit what user priority start domain argument) (parts_by setup (act.Submit what user priority start domain argument)) (λ part. (_, refl, refl))
entered_act setup command first (act.Hold r) = (refl, refl)
entered_act setup command first (act.Unhold r) = (refl, refl)
entered_act setup command first (act.Cancel r) = (refl, refl)
entered_act setup command first (act.Terminate r) = (refl, refl)

-- the requests of an expansion are numbered on
expansion_from-numbered : (setup : Setup) (n : ℕ) (orders : List (ℕ × Order)) → are_numbered_from n (expansion_from setup n orders) ≡ true
expansion_from-numbered setup n [] = refl
expansion_from-numbered setup n (order ∷ orders) =
    let p : AreFor n (parts_by setup order.1.act) (entered setup n order) = entered_act setup order.0 n order.1.act in
    are_numbered_from-append n (n + length (parts_by setup order.1.act)) (entered setup n order) _ p.0 (omega (arith, p.1))
    (expansion_from-numbered setup (n + length (parts_by setup order.1.act)) orders)

-- the requests of a plan are numbered from 1
plan-numbered : (plan : Plan) → are_numbered_from 1 plan.requests ≡ true
plan-numbered plan = ap (are_numbered_from 1) plan.expanded ∙ expansion_from-numbered plan.setup 1 (enumerate_from 1 plan.script.commands)

-- ---- so each is found by its number

-- each request stands at the place that its number says
place_in : (n : ℕ) (rs : List Req) (r : Req) → are_numbered_from n rs ≡ true → Has rs r
    → (k : ℕ) × (slice_get rs k ≡ Some r) × (r.number.number ≡ n + k)
place_in n [] r ok has = absurd has
place_in n (q ∷ rs) r ok has =
    let p : (eqb q.number.number n ≡ true) × (are_numbered_from (n + 1) rs ≡ true) = and_parts _ _ ok in
    elim has [
      | inl same ↦ (zero, ap (λ z. Some z) (sym same), ap (λ z. z.number.number) same ∙ eqb-true q.number.number n p.0 ∙ omega arith)
      | inr later ↦ let r' : (k : ℕ) × (slice_get rs k ≡ Some r) × (r.number.number ≡ n + 1 + k) = place_in (n + 1) rs r p.1 later in
          (suc r'.0, r'.1, omega (arith, r'.2))
    ]

-- the request at a place has the number of the place
number_of : (n : ℕ) (rs : List Req) (k : ℕ) (r : Req) → are_numbered_from n rs ≡ true → slice_get rs k ≡ Some r
    → (r.number.number ≡ n + k) × Has rs r
number_of n [] k r ok h = cc
number_of n (q ∷ rs) zero r ok h =
    let same : q ≡ r = cc in
    (ap (λ z. z.number.number) (sym same) ∙ eqb-true q.number.number n (and_parts (eqb q.number.number n) _ ok).0 ∙ omega arith, inl (sym same))
number_of n (q ∷ rs) (suc k) r ok h =
    let later : (r.number.number ≡ n + 1 + k) × Has rs r = number_of (n + 1) rs k r (and_parts (eqb q.number.number n) _ ok).1 h in
    (omega (arith, later.0), inr later.1)

-- the n-th element, counted from 1, is that at the place before it
pub numbered-at : {T : Type 0} (xs : List T) (n k : ℕ) → n ≡ 1 + k → numbered xs n ≡ slice_get xs k
numbered-at xs n k e = rw (ne_eqb n 0 (omega arith)) (ap (slice_get xs) (omega arith))

-- each request of a plan is found by its number
pub numbered_plan : (plan : Plan) → AreNumbered plan
unfolding request
numbered_plan plan r has =
    let p : (k : ℕ) × (slice_get plan.requests k ≡ Some r) × (r.number.number ≡ 1 + k) = place_in 1 plan.requests r (plan-numbered plan) has in
    numbered-at plan.requests r.number.number p.0 p.2 ∙ p.1

-- what stands at a number has that number, and is a request of the plan
found_at : (plan : Plan) (n : ℕ) (q : Req) → numbered plan.requests n ≡ Some q → (q.number.number ≡ n) × Has plan.requests q
found_at plan zero q h = cc
found_at plan (suc k) q h =
    let p : (q.number.number ≡ 1 + k) × Has plan.requests q =
    number_of 1 plan.requests k q (plan-numbered plan) (sym (numbered-at plan.requests (suc k) k (omega arith)) ∙ h) in
    (omega (arith, p.0), p.1)

-- what is found by a number has that number, and is a request of the plan
pub found : (plan : Plan) (id : RequestId) (q : Req) → request plan id ≡ Some q → (q.number.number ≡ id.number) × Has plan.requests q
unfolding request
found plan id q h = found_at plan id.number q h
