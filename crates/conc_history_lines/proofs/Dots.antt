-- Lines of many words, and words with and without a dot.
use Rattle.std.proofs.Common.{◌≡◌, refl, sym, ◌∙◌, ap, ℕ, Bool, true, false, ◌&&◌, List, [], ◌∷◌, ◌++◌}
use Rattle.std.specs.Prelude.{◌==◌, Option, None, Some}
use Rattle.std.specs.Char.{is_ascii_digit}
use Rattle.std.specs.List.{All, join_with_byte, list_all, slice_split}
use Rattle.std.specs.Option.{option_and_then}
use Rattle.std.proofs.lemmas.List.Splits.{join_with_byte-slice_split}
use Rattle.conc_types.specs.Decimals.{decimal_value, is_decimal}
use Rattle.conc_history_lines.specs.EventLines.{event_of_line, event_of_words, words_of}
use Rattle.conc_history_lines.specs.Places.{place_at, place_of, place_of_parts}
use Rattle.conc_history_lines.proofs.Splits.{some_part, split_at, split_none}

-- a line of six words or more is no event line
pub many_words : (starts line a b c d e : List ℕ) (u v w x y : List ℕ) → words_of line ≡ u ∷ words_of a → words_of a ≡ v ∷ words_of b
    → words_of b ≡ w ∷ words_of c → words_of c ≡ x ∷ words_of d → words_of d ≡ y ∷ words_of e → None ≡ event_of_line starts line
unfolding event_of_line
many_words starts line a b c d e u v w x y p q r s t =
    let more = some_part 32 e in
    let all : words_of line ≡ u ∷ v ∷ w ∷ x ∷ y ∷ more.0 ∷ more.1 = cc (p, q, r, s, t, more.2) in
    sym (ap (event_of_words starts) all)

-- ---- a dot

digits_end : (front back : List ℕ) → list_all is_ascii_digit (front ++ 46 ∷ back) ≡ false
digits_end [] back = refl
digits_end (x ∷ front) back = rw (digits_end front back) (by (is_ascii_digit x)) where
  by : (b : Bool) → (b && false) ≡ false
  by true = refl
  by false = refl

-- no decimal has a dot
dot_no_decimal : (front back : List ℕ) → is_decimal (front ++ 46 ∷ back) ≡ false
dot_no_decimal [] back = refl
dot_no_decimal (x ∷ front) back = rw (digits_end front back) (by (is_ascii_digit x)) where
  by : (b : Bool) → (b && false) ≡ false
  by true = refl
  by false = refl

dot_no_value : (front back : List ℕ) → decimal_value (front ++ 46 ∷ back) ≡ None
dot_no_value front back = rw (dot_no_decimal front back) refl

and_then_none : {A B : Type 0} (o : Option A) → option_and_then {T = A} {U = B} (λ _. None) o ≡ None
and_then_none None = refl
and_then_none (Some x) = refl

-- a word without a dot names no place
pub no_place : (starts word : List ℕ) → All (λ byte. (byte == 46) ≡ false) word → place_of starts word ≡ None
unfolding place_of
no_place starts word h = ap (place_of_parts starts) (split_none 46 word h)

-- the place of a word, by what stands round its first dot
pub place_round : (starts word front back : List ℕ) → word ≡ front ++ 46 ∷ back → All (λ byte. (byte == 46) ≡ false) front
    → place_of starts word ≡ option_and_then (λ owner. option_and_then (place_at starts owner) (decimal_value back)) (decimal_value front)
unfolding place_of
place_round starts word front back e h =
    let p = some_part 46 back in
    ap (place_of_parts starts) (split_at 46 word front back e h)
    ∙ by p.0 p.1 p.2 (sym (join_with_byte-slice_split 46 back) ∙ ap (join_with_byte 46) p.2) where
      by : (first : List ℕ) (rest : List (List ℕ)) → slice_split (λ byte. byte == 46) back ≡ first ∷ rest → back ≡ join_with_byte 46 (first ∷ rest)
          → place_of_parts starts (front ∷ slice_split (λ byte. byte == 46) back) ≡ option_and_then (λ owner. option_and_then (place_at starts owner) (decimal_value back)) (decimal_value front)
      by first [] parts whole = ap (λ (ps : List (List ℕ)). place_of_parts starts (front ∷ ps)) (parts ∙ ap (λ (b : List ℕ). b ∷ []) (sym whole))
      by first (second ∷ rest) parts whole =
          ap (λ (ps : List (List ℕ)). place_of_parts starts (front ∷ ps)) parts
          ∙ sym (ap (λ (o : Option ℕ). option_and_then (λ owner. option_and_then (place_at starts owner) o) (decimal_value front)) (ap decimal_value whole ∙ dot_no_value first _)
          ∙ and_then_none (decimal_value front))
