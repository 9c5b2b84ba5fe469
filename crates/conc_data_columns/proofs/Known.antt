-- Whole numbers that are kept row by row.
use Rattle.std.proofs.Common.{◌≡◌, ◌≢◌, ℕ, ◌+◌, ◌<◌, ◌⊎◌, inl, inr, ℤ, pos, List, [], ◌∷◌, ◌++◌, Option, Some, get_or, length, arith}
use Rattle.std.proofs.lemmas.Bool.{cases_eq}
use Rattle.std.proofs.lemmas.List.{get_or_append_left, get_or_push, length_push}
use Rattle.conc_types.specs.declared.kept.TheConstants.{NOT_KEPT}

-- those of the rows below a number are known so far, or marked as not kept
pub record AreKnownBelow (number_of : ℕ → Option ℤ) (n : ℕ) (values : List ℤ) : Type 0 where
  pub each : length values ≡ n
  pub known : (row : ℕ) → row < n → get_or values row (pos 0) ≢ NOT_KEPT → number_of row ≡ Some (get_or values row (pos 0))

module _ (number_of : ℕ → Option ℤ) (n : ℕ) (values : List ℤ) (value : ℤ) (h : AreKnownBelow number_of n values) (is : value ≢ NOT_KEPT → number_of n ≡ Some value) where
  at-other : (row : ℕ) → row < n → get_or (values ++ value ∷ []) row (pos 0) ≡ get_or values row (pos 0)
  at-other row below = let each = h.each in get_or_append_left values (value ∷ []) (pos 0) row (omega arith)

  at-last : get_or (values ++ value ∷ []) n (pos 0) ≡ value
  at-last = get_or_push values value (pos 0) n h.each

  known-at : (row : ℕ) → row < n + 1 → (row ≡ n) ⊎ (row ≡ n → ⊥) → get_or (values ++ value ∷ []) row (pos 0) ≢ NOT_KEPT → number_of row ≡ Some (get_or (values ++ value ∷ []) row (pos 0))
  known-at row under (inl e) = rw (e, at-last) is
  known-at row under (inr apart) = let below : row < n = omega arith in rw (at-other row below) (h.known row below)

  pub known-more : AreKnownBelow number_of (n + 1) (values ++ value ∷ [])
  known-more = record {
    each = let each = h.each in omega (arith, length_push values value);
    known = λ row under. known-at row under (cases_eq row n);
  }
