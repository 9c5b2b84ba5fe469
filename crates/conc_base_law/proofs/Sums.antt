-- Sums and filtered lists that grow or shrink.
use Rattle.std.proofs.Common.{◌≡◌, ℕ, ◌+◌, ◌<◌, ◌≤◌, Bool, true, false, List, [], ◌∷◌, length, refl, sym, ◌∙◌, ap, inl, inr, arith}
use Rattle.std.specs.List.{filter, sum_by}
use Rattle.std.proofs.lemmas.Bool.{both_ways, cases_Bool}
use Rattle.std.proofs.lemmas.List.Sums.{sum_by-cons}
use Rattle.conc_base_law.specs.Words.{Has}

-- ---- sums

-- a sum is at most another of which no term is smaller
pub sum_by-below : {T : Type 0} (f g : T → ℕ) (xs : List T) → ((y : T) → Has xs y → f y ≤ g y) → sum_by f xs ≤ sum_by g xs
sum_by-below f g [] h = omega arith
sum_by-below f g (x ∷ xs) h =
    omega (arith, sum_by-cons f x xs, sum_by-cons g x xs, h x (inl refl), sum_by-below f g xs (λ y k. h y (inr k)))

-- it is smaller where one of its terms is
pub sum_by-less : {T : Type 0} (f g : T → ℕ) (xs : List T) (x : T) → Has xs x → f x < g x → ((y : T) → Has xs y → f y ≤ g y) → sum_by f xs < sum_by g xs
sum_by-less f g [] x here less h = absurd here
sum_by-less f g (z ∷ zs) x here less h = elim here [
  | inl e ↦
      let a : f z ≡ f x = ap f (sym e) in
      let b : g z ≡ g x = ap g (sym e) in
      omega (arith, sum_by-cons f z zs, sum_by-cons g z zs, sum_by-below f g zs (λ y k. h y (inr k)))
  | inr later ↦ omega (arith, sum_by-cons f z zs, sum_by-cons g z zs, h z (inl refl), sum_by-less f g zs x later less (λ y k. h y (inr k)))
]

-- where no term grows by more than one, the sum grows by one for each term at most
pub sum_by-grows : {T : Type 0} (f g : T → ℕ) (xs : List T) → ((y : T) → Has xs y → f y ≤ g y + 1) → sum_by f xs ≤ sum_by g xs + length xs
sum_by-grows f g [] h = omega arith
sum_by-grows f g (x ∷ xs) h =
    omega (arith, sum_by-cons f x xs, sum_by-cons g x xs, h x (inl refl), sum_by-grows f g xs (λ y k. h y (inr k)))

-- ---- filters

-- one where a test holds, or none
abbrev one_if : Bool → ℕ
one_if true = 1
one_if false = 0

-- one where it holds
one_if-true : (b : Bool) → b ≡ true → one_if b ≡ 1
one_if-true true h = refl
one_if-true false h = cc

-- none where it does not
one_if-false : (b : Bool) → b ≡ false → one_if b ≡ 0
one_if-false true h = cc
one_if-false false h = refl

-- one at most
one_if-most : (b : Bool) → one_if b ≤ 1
one_if-most true = omega arith
one_if-most false = omega arith

-- no more where the test of the second holds where that of the first does
one_if-le : (a b : Bool) → (a ≡ true → b ≡ true) → one_if a ≤ one_if b
one_if-le false b h = omega arith
one_if-le true true h = omega arith
one_if-le true false h = absurd (both_ways _ refl (h refl))

-- the length of a filtered list, by its first element
filter-cons : {T : Type 0} (test : T → Bool) (x : T) (xs : List T) → length (filter test (x ∷ xs)) ≡ one_if (test x) + length (filter test xs)
filter-cons test x xs = elim (cases_Bool (test x)) [ inl t ↦ rw t (omega arith) | inr f ↦ rw f (omega arith) ]

-- a filter keeps no more than there are
pub filter-within : {T : Type 0} (f : T → Bool) (xs : List T) → length (filter f xs) ≤ length xs
filter-within f [] = omega arith
filter-within f (x ∷ xs) = omega (arith, filter-cons f x xs, one_if-most (f x), filter-within f xs)

-- a filter that passes less keeps no more
pub filter-fewer : {T : Type 0} (f g : T → Bool) (xs : List T) → ((y : T) → f y ≡ true → g y ≡ true) → length (filter f xs) ≤ length (filter g xs)
filter-fewer f g [] h = omega arith
filter-fewer f g (x ∷ xs) h = omega (arith, filter-cons f x xs, filter-cons g x xs, one_if-le (f x) (g x) (h x), filter-fewer f g xs h)

-- it keeps less where one element passes no more
pub filter-less : {T : Type 0} (f g : T → Bool) (xs : List T) (x : T) → Has xs x → f x ≡ false → g x ≡ true → ((y : T) → f y ≡ true → g y ≡ true)
    → length (filter f xs) < length (filter g xs)
filter-less f g [] x here off on h = absurd here
filter-less f g (z ∷ zs) x here off on h = elim here [
  | inl e ↦
      omega (
        arith,
        filter-cons f z zs,
        filter-cons g z zs,
        one_if-false (f z) (ap f (sym e) ∙ off),
        one_if-true (g z) (ap g (sym e) ∙ on),
        filter-fewer f g zs h,
      )
  | inr later ↦ omega (arith, filter-cons f z zs, filter-cons g z zs, one_if-le (f z) (g z) (h z), filter-less f g zs x later off on h)
]
