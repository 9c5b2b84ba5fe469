-- How many elements pass a test, where one element's value changes.
use Rattle.std.proofs.Common.{◌≡◌, ℕ, zero, suc, ◌+◌, ◌==◌, Bool, true, false, not, ◌||◌, cond, List, [], ◌∷◌, Some, length, map, set, refl, ap, arith}
use Rattle.std.specs.Prelude.{slice_get}
use Rattle.std.specs.List.{filter, list_any}
use Rattle.std.proofs.lemmas.Bool.{ne_eqb}

-- one where it holds
abbrev pub one_if : Bool → ℕ
one_if true = 1
one_if false = 0

-- how many hold
pub trues : List Bool → ℕ
trues [] = 0
trues (b ∷ bs) = one_if b + trues bs

-- a filter keeps one for each that holds
pub length-filter_trues : {T : Type 0} (f : T → Bool) (xs : List T) → length (filter f xs) ≡ trues (map f xs)
unfolding trues
length-filter_trues f [] = refl
length-filter_trues {T} f (x ∷ xs) = by (f x) (length-filter_trues f xs) where
  by : (b : Bool) → length (filter f xs) ≡ trues (map f xs) → length (cond b (x ∷ filter f xs) (filter f xs)) ≡ one_if b + trues (map f xs)
  by true h = omega (arith, h)
  by false h = omega (arith, h)

-- one value changes
pub trues-set : (bs : List Bool) (i : ℕ) (x y : Bool) → slice_get bs i ≡ Some x → trues (set bs i y) + one_if x ≡ trues bs + one_if y
unfolding trues
trues-set [] i x y h = cc
trues-set (b ∷ bs) zero x y h = let e : b ≡ x = cc in let same : one_if b ≡ one_if x = ap one_if e in omega arith
trues-set (b ∷ bs) (suc i) x y h = omega (arith, trues-set bs i x y h)

-- none passes where a filter keeps none
pub none-kept : {T : Type 0} (f : T → Bool) (xs : List T) → (length (filter f xs) == 0) ≡ not (list_any f xs)
none-kept f [] = refl
none-kept {T} f (x ∷ xs) = by (f x) (none-kept f xs) where
  by : (b : Bool) → (length (filter f xs) == 0) ≡ not (list_any f xs) → (length (cond b (x ∷ filter f xs) (filter f xs)) == 0) ≡ not (b || list_any f xs)
  by true h = ne_eqb (length (x ∷ filter f xs)) 0 (λ e. omega arith)
  by false h = h

-- a filter keeps none where none passes
pub filter-none : {T : Type 0} (f : T → Bool) (xs : List T) → ((x : T) → f x ≡ false) → length (filter f xs) ≡ 0
filter-none f [] h = refl
filter-none f (x ∷ xs) h = rw (h x) (filter-none f xs h)
