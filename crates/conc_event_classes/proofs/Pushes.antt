-- What a list has at an index after a push, and after one element is set.
use Rattle.std.proofs.Common.{◌≡◌, ◌⊎◌, ℕ, zero, suc, ◌<◌, List, [], ◌∷◌, ◌++◌, length, Some, refl, ap, arith, inl, inr}
use Rattle.std.specs.Prelude.{slice_get, slice_set}

pub get-front : {T : Type 0} (xs ys : List T) (i : ℕ) (y : T) → slice_get xs i ≡ Some y → slice_get (xs ++ ys) i ≡ Some y
get-front [] ys i y h = cc
get-front (x ∷ xs) ys zero y h = h
get-front (x ∷ xs) ys (suc i) y h = get-front xs ys i y h

pub get-seam : {T : Type 0} (xs : List T) (y : T) (ys : List T) (n : ℕ) → length xs ≡ n → slice_get (xs ++ y ∷ ys) n ≡ Some y
get-seam [] y ys zero h = refl
get-seam [] y ys (suc n) h = absurd (omega (arith, h))
get-seam (x ∷ xs) y ys zero h = absurd (omega (arith, h))
get-seam (x ∷ xs) y ys (suc n) h = get-seam xs y ys n (omega (arith, h))

-- it is one that was there, or the last
pub get-push : {T : Type 0} (xs : List T) (x : T) (n i : ℕ) (y : T) → length xs ≡ n → slice_get (xs ++ x ∷ []) i ≡ Some y
    → ((i < n) × (slice_get xs i ≡ Some y)) ⊎ ((i ≡ n) × (x ≡ y))
get-push [] x n zero y e h = let same : x ≡ y = cc in inr (omega (arith, e), same)
get-push [] x n (suc i) y e h = cc
get-push (z ∷ xs) x zero i y e h = absurd (omega (arith, e))
get-push (z ∷ xs) x (suc n) zero y e h = inl (omega arith, h)
get-push (z ∷ xs) x (suc n) (suc i) y e h = elim (get-push xs x n i y (omega (arith, e)) h) [
  | inl w ↦ inl (omega (arith, w.0), w.1)
  | inr w ↦ inr (omega (arith, w.0), w.1)
]

pub get-set_same : {T : Type 0} (xs : List T) (k : ℕ) (v : T) → k < length xs → slice_get (slice_set xs k v) k ≡ Some v
get-set_same [] k v h = absurd (omega (arith, h))
get-set_same (x ∷ xs) zero v h = refl
get-set_same (x ∷ xs) (suc k) v h = get-set_same xs k v (omega (arith, h))

pub get-set_other : {T : Type 0} (xs : List T) (k i : ℕ) (v : T) → (i ≡ k → ⊥) → slice_get (slice_set xs k v) i ≡ slice_get xs i
get-set_other [] k i v h = refl
get-set_other (x ∷ xs) zero zero v h = absurd (h refl)
get-set_other (x ∷ xs) zero (suc i) v h = refl
get-set_other (x ∷ xs) (suc k) zero v h = refl
get-set_other (x ∷ xs) (suc k) (suc i) v h = get-set_other xs k i v (λ e. h (ap suc e))

-- it is the one that was set, or one that was there
pub get-set : {T : Type 0} (xs : List T) (k i : ℕ) (v y : T) → slice_get (slice_set xs k v) i ≡ Some y
    → ((i ≡ k) × (v ≡ y)) ⊎ ((i ≡ k → ⊥) × (slice_get xs i ≡ Some y))
get-set [] k i v y h = cc
get-set (x ∷ xs) zero zero v y h = let same : v ≡ y = cc in inl (refl, same)
get-set (x ∷ xs) zero (suc i) v y h = inr ((λ e. omega (arith, e)), h)
get-set (x ∷ xs) (suc k) zero v y h = inr ((λ e. omega (arith, e)), h)
get-set (x ∷ xs) (suc k) (suc i) v y h = elim (get-set xs k i v y h) [
  | inl w ↦ inl (ap suc w.0, w.1)
  | inr w ↦ inr ((λ e. w.0 (omega (arith, e))), w.1)
]

pub set-seam : {T : Type 0} (xs : List T) (y z : T) (n : ℕ) → length xs ≡ n → slice_set (xs ++ y ∷ []) n z ≡ xs ++ z ∷ []
set-seam [] y z zero h = refl
set-seam [] y z (suc n) h = absurd (omega (arith, h))
set-seam (x ∷ xs) y z zero h = absurd (omega (arith, h))
set-seam (x ∷ xs) y z (suc n) h = ap (λ l. x ∷ l) (set-seam xs y z n (omega (arith, h)))

-- an element that is there is one
pub get-one : {T : Type 0} (xs : List T) (i : ℕ) (x y : T) → slice_get xs i ≡ Some x → slice_get xs i ≡ Some y → x ≡ y
get-one xs i x y h k = cc
