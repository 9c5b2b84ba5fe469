-- Rows that are numbered one after the other.
use Rattle.std.proofs.Common.{◌≡◌, ◌∙◌, sym, ap, refl, ℕ, ◌+◌, ◌<◌, ◌⊎◌, inl, inr, List, [], ◌∷◌, ◌++◌, get_or, length, arith}
use Rattle.std.proofs.lemmas.Bool.{cases_eq}
use Rattle.std.proofs.lemmas.List.{get_or_append_left, get_or_push, length_push}

-- the rows below a number have numbers so far
pub record IsNumberedBelow (cell_at : ℕ → List ℕ) (n : ℕ) (numbers samples : List ℕ) : Type 0 where
  pub each : length numbers ≡ n
  pub named : (row : ℕ) → row < n → get_or numbers row 0 < length samples
  pub same : (row : ℕ) → row < n → cell_at row ≡ cell_at (get_or samples (get_or numbers row 0) 0)

-- one more row, with a number that is there
module _ (cell_at : ℕ → List ℕ) (n : ℕ) (numbers samples : List ℕ) (number : ℕ) (h : IsNumberedBelow cell_at n numbers samples) (within : number < length samples) (is : cell_at n ≡ cell_at (get_or samples number 0)) where
  at-other : (row : ℕ) → row < n → get_or (numbers ++ number ∷ []) row 0 ≡ get_or numbers row 0
  at-other row below = let each = h.each in get_or_append_left numbers (number ∷ []) 0 row (omega arith)

  at-last : get_or (numbers ++ number ∷ []) n 0 ≡ number
  at-last = get_or_push numbers number 0 n h.each

  named-at : (row : ℕ) → row < n + 1 → (row ≡ n) ⊎ (row ≡ n → ⊥) → get_or (numbers ++ number ∷ []) row 0 < length samples
  named-at row under (inl e) = rw (e, at-last) within
  named-at row under (inr apart) = let below : row < n = omega arith in rw (at-other row below) (h.named row below)

  same-at : (row : ℕ) → row < n + 1 → (row ≡ n) ⊎ (row ≡ n → ⊥) → cell_at row ≡ cell_at (get_or samples (get_or (numbers ++ number ∷ []) row 0) 0)
  same-at row under (inl e) = rw (e, at-last) is
  same-at row under (inr apart) = let below : row < n = omega arith in rw (at-other row below) (h.same row below)

  pub numbered-found : IsNumberedBelow cell_at (n + 1) (numbers ++ number ∷ []) samples
  numbered-found = record {
    each = let each = h.each in omega (arith, length_push numbers number);
    named = λ row under. named-at row under (cases_eq row n);
    same = λ row under. same-at row under (cases_eq row n);
  }

-- one more row, with a new number
module _ (cell_at : ℕ → List ℕ) (n : ℕ) (numbers samples : List ℕ) (h : IsNumberedBelow cell_at n numbers samples) where
  more-samples : IsNumberedBelow cell_at n numbers (samples ++ n ∷ [])
  more-samples = record {
    each = h.each;
    named = λ row below. let before = h.named row below in omega (arith, length_push samples n);
    same = λ row below. h.same row below ∙ ap cell_at (sym (get_or_append_left samples (n ∷ []) 0 (get_or numbers row 0) (h.named row below)));
  }

  pub numbered-new : IsNumberedBelow cell_at (n + 1) (numbers ++ length samples ∷ []) (samples ++ n ∷ [])
  numbered-new =
      numbered-found cell_at n numbers (samples ++ n ∷ []) (length samples) more-samples (omega (arith, length_push samples n))
      (ap cell_at (sym (get_or_push samples n 0 (length samples) refl)))
