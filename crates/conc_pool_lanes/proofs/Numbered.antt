-- Sums over the requests of a plan, of which one at most has a number.
use Rattle.std.proofs.Common.{◌≡◌, ℕ, zero, suc, ◌+◌, ◌<◌, ◌≤◌, ◌==◌, true, List, [], ◌∷◌, Some, slice_get, eq-eqb, eqb-true, refl, ◌∙◌, inl, inr, arith}
use Rattle.std.specs.List.{sum_by}
use Rattle.std.proofs.lemmas.Bool.{and_from, and_parts, cases_eq}
use Rattle.std.proofs.lemmas.List.Sums.{sum_by-cons}
use Rattle.conc_types.specs.declared.plan.Plan.{Plan}
use Rattle.conc_types.specs.declared.plan.Req.{Req}
use Rattle.conc_types.specs.Plans.{request}
use Rattle.conc_base_law.specs.Words.{Has}
use Rattle.conc_base_law.proofs.Numbering.{are_numbered_from, found, numbered-at}

-- requests are numbered on where each has the number of its place
numbered-from : (n : ℕ) (xs : List Req) → ((k : ℕ) (q : Req) → slice_get xs k ≡ Some q → q.number.number ≡ n + k) → are_numbered_from n xs ≡ true
numbered-from n [] h = refl
numbered-from n (x ∷ xs) h =
    and_from _ _ (eq-eqb x.number.number n (omega (arith, h zero x refl))) (numbered-from (n + 1) xs (λ k q g. omega (arith, h (suc k) q g)))

-- those of a plan are numbered from 1
plan-numbered : (plan : Plan) → are_numbered_from 1 plan.requests ≡ true
unfolding request
plan-numbered plan =
    numbered-from 1 plan.requests (λ k q h. (found plan (record { number = 1 + k }) q (numbered-at plan.requests (1 + k) k refl ∙ h)).0)

-- a sum does not rise where no term does but those of requests with a number that is passed
rises-past : (f g : Req → ℕ) (m n : ℕ) (xs : List Req) → are_numbered_from n xs ≡ true → m < n
    → ((y : Req) → Has xs y → (y.number.number ≡ m → ⊥) → f y ≤ g y) → sum_by f xs ≤ sum_by g xs
rises-past f g m n [] ok past other = omega arith
rises-past f g m n (x ∷ xs) ok past other =
    let p : ((x.number.number == n) ≡ true) × (are_numbered_from (n + 1) xs ≡ true) = and_parts _ _ ok in
    let here : x.number.number ≡ n = eqb-true _ _ p.0 in
    let one : f x ≤ g x = other x (inl refl) (λ e. absurd (omega (arith, e))) in
    let rest : sum_by f xs ≤ sum_by g xs = rises-past f g m (n + 1) xs p.1 (omega arith) (λ y k. other y (inr k)) in
    omega (arith, sum_by-cons f x xs, sum_by-cons g x xs)

-- it rises by one at most where only the term of the request with a number does, by one
rises-from : (f g : Req → ℕ) (m n : ℕ) (xs : List Req) → are_numbered_from n xs ≡ true → ((y : Req) → Has xs y → f y ≤ g y + 1)
    → ((y : Req) → Has xs y → (y.number.number ≡ m → ⊥) → f y ≤ g y) → sum_by f xs ≤ sum_by g xs + 1
rises-from f g m n [] ok most other = omega arith
rises-from f g m n (x ∷ xs) ok most other =
    let p : ((x.number.number == n) ≡ true) × (are_numbered_from (n + 1) xs ≡ true) = and_parts _ _ ok in
    let here : x.number.number ≡ n = eqb-true _ _ p.0 in
    elim (cases_eq n m) [
      | inl same ↦
          let one : f x ≤ g x + 1 = most x (inl refl) in
          let rest : sum_by f xs ≤ sum_by g xs = rises-past f g m (n + 1) xs p.1 (omega arith) (λ y k. other y (inr k)) in
          omega (arith, sum_by-cons f x xs, sum_by-cons g x xs)
      | inr apart ↦
          let one : f x ≤ g x = other x (inl refl) (λ e. apart (omega (arith, e))) in
          let rest : sum_by f xs ≤ sum_by g xs + 1 = rises-from f g m (n + 1) xs p.1 (λ y k. most y (inr k)) (λ y k. other y (inr k)) in
          omega (arith, sum_by-cons f x xs, sum_by-cons g x xs)
    ]

-- the same for the requests of a plan
pub rises-once : (plan : Plan) (f g : Req → ℕ) (m : ℕ) → ((y : Req) → Has plan.requests y → f y ≤ g y + 1)
    → ((y : Req) → Has plan.requests y → (y.number.number ≡ m → ⊥) → f y ≤ g y) → sum_by f plan.requests ≤ sum_by g plan.requests + 1
rises-once plan f g m most other = rises-from f g m 1 plan.requests (plan-numbered plan) most other
