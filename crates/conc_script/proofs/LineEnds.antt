-- The first line of a text, by the place of its LF.
use Rattle.std.proofs.Common.{◌≡◌, refl, ◌∙◌, ap, ◌<◌, ◌≤◌, ◌+◌, ◌-◌, ℕ, zero, suc, Bool, true, false, cond, List, [], ◌∷◌, ◌++◌, length, get_or, take, drop, arith, sym}
use Rattle.std.specs.Prelude.{◌==◌, ◌&&◌, if◌then◌else◌, nat_lt, position, Option, None, Some}
use Rattle.std.specs.List.{position_or_len}
use Rattle.std.specs.Option.{MatchOption, unwrap_or}
use Rattle.std.specs.Str.{bytes_eq}
use Rattle.std.proofs.lemmas.Bool.{eqb-true, ltb-false}
use Rattle.std.proofs.lemmas.Bool.Decides.{Decides-eqb}
use Rattle.std.proofs.lemmas.List.Quantifiers.{position-Some}
use Rattle.std.proofs.lemmas.List.Sums.{fails_before_first}
use Rattle.std.proofs.lemmas.Slice.Eq.{strip_suffix_is}
use Rattle.std.proofs.lemmas.List.{drop-drop, take_rest}
use Rattle.std.proofs.Math.Numerals.{add-one}
use denote.Ref.{Bor}
use Rattle.conc_script.specs.Clock.{begins_with_line_feed, lines_of, onto_first}
use Rattle.conc_script.specs.Lines.{without_return}

-- a byte that ends no line stands before the first line
lines_onto : (x : ℕ) (s : List ℕ) → (x == 10) ≡ false → begins_with_line_feed s ≡ false → lines_of (x ∷ s) ≡ onto_first x (lines_of s)
lines_onto x s ne nb =
    rw (ne, nb) (elim (x == 13) as (λ b. (if b && false then lines_of s else onto_first x (lines_of s)) ≡ onto_first x (lines_of s)) [ true ↦ refl | false ↦ refl ])

lines_before : (s : List ℕ) (k : ℕ) → k < length s → (get_or s k 0 == 10) ≡ true → ((j : ℕ) → j < k → (get_or s j 0 == 10) ≡ false)
    → lines_of s ≡ without_return (take k s) ∷ lines_of (drop (suc k) s)
lines_before [] k l e h = absurd (omega arith)
lines_before (x ∷ s) zero l e h = rw e refl
lines_before (x ∷ []) (suc zero) l e h = absurd (omega arith)
lines_before (x ∷ y ∷ s) (suc zero) l e h =
    let ne : (x == 10) ≡ false = h 0 (omega arith) in
    rw (ne, e) (elim (x == 13) as (λ b. (if b && true then [] ∷ lines_of s else (x ∷ []) ∷ lines_of s) ≡ (if b then [] else x ∷ []) ∷ lines_of s) [ true ↦ refl | false ↦ refl ])
lines_before (x ∷ []) (suc (suc k)) l e h = absurd (omega arith)
lines_before (x ∷ y ∷ s) (suc (suc k)) l e h =
    lines_onto x (y ∷ s) (h 0 (omega arith)) (h 1 (omega arith)) ∙ ap (onto_first x) (lines_before (y ∷ s) (suc k) (omega arith) e (λ j m. h (suc j) (omega arith)))

lines_without : (x : ℕ) (s : List ℕ) → ((j : ℕ) → j < length (x ∷ s) → (get_or (x ∷ s) j 0 == 10) ≡ false) → lines_of (x ∷ s) ≡ (x ∷ s) ∷ []
lines_without x [] h = lines_onto x [] (h 0 (omega arith)) refl
lines_without x (y ∷ s) h = lines_onto x (y ∷ s) (h 0 (omega arith)) (h 1 (omega arith)) ∙ ap (onto_first x) (lines_without y s (λ j m. h (suc j) (omega arith)))

-- the line before the first LF, and those after it
lines_at : (s : List ℕ) (k : ℕ) → position (λ byte. byte == 10) s ≡ Some k → lines_of s ≡ without_return (take k s) ∷ lines_of (drop (suc k) s)
lines_at s k e =
    let p = position-Some (λ (byte : ℕ). byte == 10) s k 0 e in
    lines_before s k p.0 p.1 p.2

-- the same of the two parts in which the text is split there
pub lines_split : (s front back line : List ℕ) (k : ℕ) → position (λ byte. byte == 10) s ≡ Some k → front ≡ take k s → back ≡ drop k s → line ≡ without_return front
    → lines_of s ≡ line ∷ lines_of (take (length back - 1) (drop 1 back))
lines_split s front back line k e f b l = rw (take_rest back 1, l, f, b, drop-drop 1 k s, add-one k) (lines_at s k e)

past_end : (n most : ℕ) → cond (nat_lt n most) (Some n) None ≡ None → most ≤ n
past_end n most e = elim (nat_lt n most) as (λ b. nat_lt n most ≡ b → cond b (Some n) None ≡ None → most ≤ n) [ true ↦ (λ h k. absurd cc) | false ↦ (λ h k. ltb-false n most h) ] refl e

-- a text without LF is one line
pub lines_whole : (s : List ℕ) → (length s == 0) ≡ false → position (λ byte. byte == 10) s ≡ None → lines_of s ≡ s ∷ []
lines_whole [] h e = absurd cc
lines_whole (x ∷ s) h e =
    let p : ℕ → Bool = λ byte. byte == 10 in
    let all : length (x ∷ s) ≤ position_or_len p (x ∷ s) = past_end (position_or_len p (x ∷ s)) (length (x ∷ s)) e in
    lines_without x s (λ j m. fails_before_first p (x ∷ s) j 0 (omega arith))

return_ends : (front : List ℕ) → without_return (front ++ 13 ∷ []) ≡ front
return_ends [] = refl
return_ends (x ∷ []) = refl
return_ends (x ∷ y ∷ front) = ap (λ (rest : List ℕ). x ∷ rest) (return_ends (y ∷ front))

no_return : (s : List ℕ) → ((front : List ℕ) → s ≡ front ++ 13 ∷ [] → ⊥) → without_return s ≡ s
no_return [] h = refl
no_return (x ∷ []) h = elim (x == 13) as (λ b. (x == 13) ≡ b → (if b then [] else x ∷ []) ≡ x ∷ []) [ true ↦ (λ e. absurd (h [] (ap (λ (byte : ℕ). byte ∷ []) (eqb-true x 13 e)))) | false ↦ (λ e. refl) ] refl
no_return (x ∷ y ∷ s) h = ap (λ (rest : List ℕ). x ∷ rest) (no_return (y ∷ s) (λ front e. h (x ∷ front) (ap (λ (rest : List ℕ). x ∷ rest) e)))

-- a line without its CR, as `strip_suffix` gives it
pub without_return_is : (s : List ℕ) (r : Option (Bor (List ℕ))) (line : Bor (List ℕ)) → line.now ≡ s
    → MatchOption r (bytes_eq (drop (length s - 1) s) (13 ∷ []) ≡ false) (λ x. (bytes_eq (drop (length s - 1) s) (13 ∷ []) ≡ true) × (x.now ≡ take (length s - 1) s) × (length x.now + 1 ≡ length s))
    → (unwrap_or r line).now ≡ without_return s
without_return_is s None line e h = e ∙ sym (no_return s (strip_suffix_is Decides-eqb s (13 ∷ []) None h))
without_return_is s (Some x) line e h = sym (ap without_return (strip_suffix_is Decides-eqb s (13 ∷ []) (Some x) h) ∙ return_ends x.now)
