-- Each number has one decimal, and it is read back.
use Rattle.std.proofs.Common.{◌≡◌, refl, sym, ◌∙◌, ap, ◌<◌, ◌^◌, ℕ, zero, suc, Bool, true, false, not, ◌&&◌, ◌||◌, ◌==◌, List, [], ◌∷◌, length, get_or, Some, arith}
use Rattle.std.specs.Prelude.{nat_le, nat_lt}
use Rattle.std.specs.Bool.{then_some}
use Rattle.std.specs.Char.{digit_value, is_ascii_digit}
use Rattle.std.specs.Fmt.{decimal}
use Rattle.std.specs.List.{list_all}
use Rattle.std.specs.Str.Parse.{AllDigits, digits_value}
use Rattle.std.proofs.lemmas.Bool.{and_from, and_parts, eq-eqb, lt-ltb, ltb-true, ne_eqb}
use Rattle.std.proofs.lemmas.Bool.Decides.{nat_tests}
use Rattle.std.proofs.lemmas.Fmt.{decimal-digits_value, decimal_digit, decimal_is_IsNumeral, first_decimal}
use Rattle.std.proofs.lemmas.Str.Parse.{digit_from_value, IsNumeralModel, numerals_by_value, tells_digits}
use Rattle.conc_types.specs.declared.event.RequestId.{RequestId}
use Rattle.conc_types.specs.Decimals.{decimal_value, is_decimal}
use Rattle.conc_types.proofs.Decimals.{decimal_digits}
use Rattle.conc_base_law.specs.Text.{id_word}
use Rattle.conc_base_law.proofs.Options.{and_then-some, map-some, then_some-some}
use Rattle.conc_history_lines.specs.Numbers.{id_of, number_of, stage_of}

own : IsNumeralModel (AllDigits 10) (digits_value 10)
own = numerals_by_value (AllDigits 10) tells_digits

-- ---- what a decimal is made of

decimal_some : (bs : List ℕ) → is_decimal bs ≡ true → 0 < length bs
decimal_some [] e = absurd cc
decimal_some (c ∷ cs) e = omega arith

-- a decimal that begins with 0 is 0
zero_alone : (bs : List ℕ) → is_decimal bs ≡ true → get_or bs 0 0 ≡ 48 → length bs ≡ 1
zero_alone [] e z = absurd cc
zero_alone (c ∷ []) e z = refl
zero_alone (c ∷ d ∷ ds) e z =
    let k = and_parts (is_ascii_digit c) _ e in
    let m = and_parts (list_all is_ascii_digit (d ∷ ds)) (not (c == 48) || false) k.1 in
    let here : (c == 48) ≡ true = eq-eqb c 48 z in
    let none : (not true || false) ≡ true = rw here at m.1 in
    absurd cc

digit_from : (c : ℕ) → digit_value c < 10 → is_ascii_digit c ≡ true
digit_from c h = let k = digit_from_value c h in grind (arith, nat_tests)

pub digits_from : (bs : List ℕ) → AllDigits 10 bs → list_all is_ascii_digit bs ≡ true
digits_from [] h = refl
digits_from (c ∷ cs) h = and_from (is_ascii_digit c) (list_all is_ascii_digit cs) (digit_from c h.0) (digits_from cs h.1)

is_decimal_from : (bs : List ℕ) → AllDigits 10 bs → 0 < length bs → (get_or bs 0 0 ≡ 48 → length bs ≡ 1) → is_decimal bs ≡ true
is_decimal_from [] h some alone = absurd (omega arith)
is_decimal_from (c ∷ []) h some alone = and_from (is_ascii_digit c) _ (digit_from c h.0) (by (c == 48)) where
  by : (b : Bool) → (true && (not b || true)) ≡ true
  by true = refl
  by false = refl
is_decimal_from (c ∷ d ∷ ds) h some alone =
    let ne : (c == 48) ≡ false = ne_eqb c 48 (λ e. let one = alone e in absurd (omega arith)) in
    and_from (is_ascii_digit c) _ (digit_from c h.0) (and_from (list_all is_ascii_digit (d ∷ ds)) (not (c == 48) || false) (digits_from (d ∷ ds) h.1) (rw ne refl))

-- ---- one decimal

pub decimal_spelled : (word : List ℕ) (n : ℕ) → decimal_value word ≡ Some n → word ≡ decimal n
decimal_spelled word n h =
    let p = then_some-some (is_decimal word && nat_lt (digits_value 10 word) (2 ^ 64)) (digits_value 10 word) n h in
    let q = and_parts (is_decimal word) (nat_lt (digits_value 10 word) (2 ^ 64)) p.0 in
    let below : digits_value 10 word < 18446744073709551616 = ltb-true (digits_value 10 word) 18446744073709551616 q.1 in
    sym (decimal-digits_value own word (decimal_digits word q.0) (decimal_some word q.0) (zero_alone word q.0) below) ∙ ap decimal p.1

pub number_spelled : (word : List ℕ) (n : ℕ) → number_of word ≡ Some n → word ≡ decimal n
unfolding number_of
number_spelled word n h =
    let p = and_then-some (λ n. then_some (nat_lt n (2 ^ 32)) n) (decimal_value word) n h in
    let q = then_some-some (nat_lt p.0 (2 ^ 32)) p.0 n p.2 in
    decimal_spelled word p.0 p.1 ∙ ap decimal q.1

pub id_spelled : (word : List ℕ) (r : RequestId) → id_of word ≡ Some r → word ≡ id_word r
id_spelled word r h =
    let p = map-some (λ (n : ℕ). record { number = n }) (number_of word) r h in
    number_spelled word p.0 p.1 ∙ ap (λ (q : RequestId). decimal q.number) p.2

pub stage_spelled : (word : List ℕ) (k : ℕ) → stage_of word ≡ Some k → word ≡ decimal k
unfolding stage_of
stage_spelled word k h =
    let p = and_then-some (λ n. then_some (nat_le 1 n) n) (number_of word) k h in
    let q = then_some-some (nat_le 1 p.0) p.0 k p.2 in
    number_spelled word p.0 p.1 ∙ ap decimal q.1

-- ---- which is read back

value_from : (word : List ℕ) (n : ℕ) → is_decimal word ≡ true → digits_value 10 word ≡ n → n < 18446744073709551616 → decimal_value word ≡ Some n
value_from word n is value below = rw (is, value, lt-ltb n 18446744073709551616 below) refl

decimal_zero : (n : ℕ) → n < 18446744073709551616 → get_or (decimal n) 0 0 ≡ 48 → length (decimal n) ≡ 1
decimal_zero zero h e = ap length (decimal_digit 0 (omega arith))
decimal_zero (suc n) h e = absurd (omega (arith, first_decimal (suc n) (omega arith) h))

pub decimal_back : (n : ℕ) → n < 18446744073709551616 → decimal_value (decimal n) ≡ Some n
decimal_back n h =
    let p = decimal_is_IsNumeral n h in
    value_from (decimal n) n (is_decimal_from (decimal n) p.0.1 p.0.0 (decimal_zero n h)) p.1 h

pub number_back : (n : ℕ) → nat_lt n (2 ^ 32) ≡ true → number_of (decimal n) ≡ Some n
unfolding number_of
number_back n h =
    let below : n < 4294967296 = ltb-true n 4294967296 h in
    rw (decimal_back n (omega arith), h) refl

pub id_back : (r : RequestId) → nat_lt r.number (2 ^ 32) ≡ true → id_of (id_word r) ≡ Some r
id_back r h = rw (number_back r.number h) refl

pub stage_back : (k : ℕ) → nat_le 1 k ≡ true → nat_lt k (2 ^ 32) ≡ true → stage_of (decimal k) ≡ Some k
unfolding stage_of
stage_back k some h = rw (number_back k h, some) refl
