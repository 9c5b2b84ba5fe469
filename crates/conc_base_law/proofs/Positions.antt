-- Lists by their positions: one element more, and where two agree.
use Rattle.std.proofs.Common.{◌≡◌, ℕ, zero, suc, ◌<◌, false, List, [], ◌∷◌, ◌++◌, length, reverse, take, Some, refl, ap, arith}
use Rattle.std.specs.Prelude.{slice_get}
use Rattle.std.proofs.lemmas.List.{reverse-append}
use Rattle.conc_types.specs.Words.{is_empty}

-- there is an element at each position
pub slice_get-some : {T : Type 0} (xs : List T) (i : ℕ) → i < length xs → (x : T) × (slice_get xs i ≡ Some x)
slice_get-some [] i h = absurd (omega arith)
slice_get-some (x ∷ xs) zero h = (x, refl)
slice_get-some (x ∷ xs) (suc i) h = slice_get-some xs i (omega arith)

-- the front of a list up to an element, with that element
pub take-suc_at : {T : Type 0} (xs : List T) (i : ℕ) (x : T) → slice_get xs i ≡ Some x → take (suc i) xs ≡ take i xs ++ x ∷ []
take-suc_at [] i x h = cc
take-suc_at (y ∷ ys) zero x h = let same : y ≡ x = cc in ap (λ z. z ∷ []) same
take-suc_at (y ∷ ys) (suc i) x h = ap (λ l. y ∷ l) (take-suc_at ys i x h)

-- the last element is the first of the reverse
pub reverse-push : {T : Type 0} (xs : List T) (x : T) → reverse (xs ++ x ∷ []) ≡ x ∷ reverse xs
reverse-push xs x = reverse-append xs (x ∷ [])

-- a list with an element is not empty
pub is_empty-long : {T : Type 0} (xs : List T) → 0 < length xs → is_empty xs ≡ false
is_empty-long [] h = absurd (omega arith)
is_empty-long (x ∷ xs) h = refl
