-- Whether one of some requests passes, one request after the other.
use Rattle.std.proofs.Common.{◌≡◌, ℕ, zero, suc, ◌+◌, ◌≤◌, Bool, true, false, List, [], ◌∷◌, length, drop, Some, refl, ◌∙◌, ap, add-one, arith}
use Rattle.std.specs.Prelude.{slice_get}
use Rattle.std.specs.List.{list_any}

-- where the one at an index does not, a later one passes
pub any-later : {T : Type 0} (test : T → Bool) (xs : List T) (i : ℕ) (x : T) → slice_get xs i ≡ Some x → test x ≡ false → list_any test (drop i xs) ≡ list_any test (drop (i + 1) xs)
any-later {T} test xs i x at none = rw (add-one i) (go xs i at) where
  go : (xs : List T) (i : ℕ) → slice_get xs i ≡ Some x → list_any test (drop i xs) ≡ list_any test (drop (suc i) xs)
  go [] i at = cc
  go (y ∷ ys) zero at = let same : y ≡ x = cc in rw (ap test same ∙ none) refl
  go (y ∷ ys) (suc i) at = go ys i at

-- where it does, one does
pub any-here : {T : Type 0} (test : T → Bool) (xs : List T) (i : ℕ) (x : T) → slice_get xs i ≡ Some x → test x ≡ true → list_any test (drop i xs) ≡ true
any-here test [] i x at some = cc
any-here test (y ∷ ys) zero x at some = let same : y ≡ x = cc in rw (ap test same ∙ some) refl
any-here test (y ∷ ys) (suc i) x at some = any-here test ys i x at some

-- behind the last one none does
pub any-end : {T : Type 0} (test : T → Bool) (xs : List T) (i : ℕ) → length xs ≤ i → list_any test (drop i xs) ≡ false
any-end test [] zero past = refl
any-end test [] (suc i) past = refl
any-end test (x ∷ xs) zero past = absurd (omega (arith, past))
any-end test (x ∷ xs) (suc i) past = any-end test xs i (omega (arith, past))
