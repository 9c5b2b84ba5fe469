-- Texts that are cut at the first of some bytes.
use Rattle.std.proofs.Common.{◌≡◌, refl, ◌∙◌, ap, ◌<◌, ◌≤◌, ◌-◌, ℕ, zero, suc, Bool, true, false, cond, List, [], ◌∷◌, ◌++◌, length, get_or, take, drop, rules, arith}
use Rattle.std.specs.Prelude.{◌==◌, nat_lt, position, None, Some}
use Rattle.std.specs.List.{All, onto_first, position_or_len, slice_split}
use Rattle.std.proofs.lemmas.Bool.{eqb-true, ltb-false}
use Rattle.std.proofs.lemmas.List.{drop-drop, take_rest}
use Rattle.std.proofs.lemmas.List.Quantifiers.{position-Some}
use Rattle.std.proofs.lemmas.List.Splits.{slice_split_at, slice_split_none}
use Rattle.std.proofs.lemmas.List.Sums.{fails_before_first}
use Rattle.std.proofs.Math.Numerals.{add-one}

past_end : (n most : ℕ) → cond (nat_lt n most) (Some n) None ≡ None → most ≤ n
past_end n most e = elim (nat_lt n most) as (λ b. nat_lt n most ≡ b → cond b (Some n) None ≡ None → most ≤ n) [ true ↦ (λ h k. absurd cc) | false ↦ (λ h k. ltb-false n most h) ] refl e

-- a text without the byte
pub lacks_at : (c : ℕ) (bs : List ℕ) → position (λ other. other == c) bs ≡ None → All (λ other. (other == c) ≡ false) bs
lacks_at c bs e = λ k d h.
    let all : length bs ≤ position_or_len (λ other. other == c) bs = past_end (position_or_len (λ other. other == c) bs) (length bs) e in
    fails_before_first (λ other. other == c) bs k d (omega arith)

cut_at : (c : ℕ) (bs : List ℕ) (k : ℕ) → k < length bs → (get_or bs k 0 == c) ≡ true → bs ≡ take k bs ++ c ∷ drop (suc k) bs
cut_at c [] k l e = absurd (omega arith)
cut_at c (x ∷ bs) zero l e = ap (λ (y : ℕ). y ∷ bs) (eqb-true x c e)
cut_at c (x ∷ bs) (suc k) l e = ap (λ (ys : List ℕ). x ∷ ys) (cut_at c bs k (omega arith) e)

-- the byte stands between the two parts in which a text is cut at its place
pub parts_at : (c : ℕ) (bs front back : List ℕ) (k : ℕ) → position (λ other. other == c) bs ≡ Some k → front ≡ take k bs → back ≡ drop k bs
    → bs ≡ front ++ c ∷ take (length back - 1) (drop 1 back)
parts_at c bs front back k e f b =
    let p = position-Some (λ (other : ℕ). other == c) bs k 0 e in
    let rest : take (length back - 1) (drop 1 back) ≡ drop (suc k) bs = take_rest back 1 ∙ (ap (λ (ys : List ℕ). drop 1 ys) b ∙ (drop-drop 1 k bs ∙ ap (λ (n : ℕ). drop n bs) (add-one k))) in
    rw (rest, f) (cut_at c bs k p.0 p.1)

first_take : (c : ℕ) (bs : List ℕ) (k : ℕ) → k < length bs → ((j : ℕ) → j < k → (get_or bs j 0 == c) ≡ false)
    → (j d : ℕ) → j < length (take k bs) → (get_or (take k bs) j d == c) ≡ false
first_take c [] k l h j d m = absurd (omega arith)
first_take c (x ∷ bs) zero l h j d m = absurd (omega arith)
first_take c (x ∷ bs) (suc k) l h zero d m = h 0 (omega arith)
first_take c (x ∷ bs) (suc k) l h (suc j) d m = first_take c bs k (omega arith) (λ i n. h (suc i) (omega arith)) j d (omega arith)

-- and none stands in the first of them
pub first_at : (c : ℕ) (bs front : List ℕ) (k : ℕ) → position (λ other. other == c) bs ≡ Some k → front ≡ take k bs
    → All (λ other. (other == c) ≡ false) front
first_at c bs front k e f =
    let p = position-Some (λ (other : ℕ). other == c) bs k 0 e in
    rw f (first_take c bs k p.0 p.2)

-- the parts of a text round a byte, of which the first has none
pub split_at : (c : ℕ) (bs front back : List ℕ) → bs ≡ front ++ c ∷ back → All (λ other. (other == c) ≡ false) front
    → slice_split (λ byte. byte == c) bs ≡ front ∷ slice_split (λ byte. byte == c) back
split_at c bs front back e h = rw e (slice_split_at (λ (byte : ℕ). byte == c) front c back h (same c)) where
  same : (n : ℕ) → (n == n) ≡ true
  same n = search rules

pub split_none : (c : ℕ) (bs : List ℕ) → All (λ other. (other == c) ≡ false) bs → slice_split (λ byte. byte == c) bs ≡ bs ∷ []
split_none c bs h = slice_split_none (λ (byte : ℕ). byte == c) bs h

-- there is a part
pub some_part : (c : ℕ) (bs : List ℕ) → (first : List ℕ) × (rest : List (List ℕ)) × (slice_split (λ byte. byte == c) bs ≡ first ∷ rest)
some_part c [] = ([], [], refl)
some_part c (x ∷ bs) = by (x == c) (some_part c bs) where
  by : (b : Bool) → (first : List ℕ) × (rest : List (List ℕ)) × (slice_split (λ byte. byte == c) bs ≡ first ∷ rest)
      → (first : List ℕ) × (rest : List (List ℕ)) × (cond b ([] ∷ slice_split (λ byte. byte == c) bs) (onto_first x (slice_split (λ byte. byte == c) bs)) ≡ first ∷ rest)
  by true p = ([], slice_split (λ byte. byte == c) bs, refl)
  by false p = (x ∷ p.0, p.1, ap (onto_first x) p.2)
