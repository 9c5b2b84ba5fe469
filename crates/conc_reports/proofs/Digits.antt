-- What up to 19 digits spell fits 64 bits.
use Rattle.std.proofs.Common.{◌≡◌, refl, ◌∙◌, ℕ, zero, suc, ◌+◌, ◌-◌, ◌*◌, ◌^◌, ◌<◌, ◌≤◌, Bool, true, false, ◌&&◌, ◌==◌, List, [], ◌∷◌, length, take, get_or, arith, length-take, get_or-take, take_all}
use Rattle.std.specs.Char.{digit_value}
use Rattle.std.specs.Int.{IsInRange}
use Rattle.std.specs.List.{list_all}
use Rattle.std.specs.Prelude.{nat_le}
use Rattle.std.specs.Str.Parse.{AllDigits, digits_value}
use Rattle.std.proofs.lemmas.Bool.Decides.{nat_tests}
use Rattle.std.proofs.lemmas.Int.Digits.{digits_value-lt, digits_value_more}
use Rattle.std.proofs.lemmas.Str.{digit_value_digit}
use Rattle.std.proofs.lemmas.Str.Parse.{digit_at}
use Rattle.std.proofs.Math.Nat.{pow-le-pow_right}
use Rattle.conc_base_law.specs.Numbers.{is_digit, are_digits}

and_true : (x : Bool) → (x && true) ≡ x
and_true true = refl
and_true false = refl

both : (x y : Bool) → (x && y) ≡ true → (x ≡ true) × (y ≡ true)
both true y e = (refl, e)
both false y e = absurd cc

in_range : (c : ℕ) → is_digit c ≡ true → IsInRange 48 57 c
in_range c e = grind (arith, nat_tests)

digit_below : (c : ℕ) → is_digit c ≡ true → digit_value c < 10
digit_below c e = let k = in_range c e in omega (arith, digit_value_digit c k)

all_digits : (n : ℕ) (bs : List ℕ) → list_all is_digit bs ≡ true → AllDigits 10 (take n bs)
all_digits zero bs e = tt
all_digits (suc n) [] e = tt
all_digits (suc n) (c ∷ cs) e =
    let k = both (is_digit c) (list_all is_digit cs) e in (digit_below c k.0, all_digits n cs k.1)

-- ---- one more digit of a list of at most 19

pub record NextDigit (bs : List ℕ) (i : ℕ) : Type 0 where
  pub least : 48 ≤ get_or bs i 0
  pub value : digits_value 10 (take (i + 1) bs) ≡ digits_value 10 (take i bs) * 10 + (get_or bs i 0 - 48)
  pub fits : digits_value 10 (take i bs) * 10 + (get_or bs i 0 - 48) < 2 ^ 64
  pub all : list_all is_digit (take (i + 1) bs) ≡ true

-- one more byte is looked at
all_taken : (i : ℕ) (bs : List ℕ) (byte : ℕ) → i < length bs → byte ≡ get_or bs i 0 → list_all is_digit (take i bs) ≡ true → list_all is_digit (take (i + 1) bs) ≡ is_digit byte
all_taken zero [] byte below same e = absurd (omega arith)
all_taken zero (c ∷ cs) byte below same e = rw same (and_true (is_digit c))
all_taken (suc i) [] byte below same e = absurd (omega arith)
all_taken (suc i) (c ∷ cs) byte below same e =
    let k = both (is_digit c) (list_all is_digit (take i cs)) e in
    let step : suc i + 1 ≡ suc (i + 1) = omega arith in
    rw (step, k.0) (all_taken i cs byte (omega arith) same k.1)

pub next_digit : (bs : List ℕ) (i byte : ℕ) → length bs ≤ 19 → i < length bs → byte ≡ get_or bs i 0 → list_all is_digit (take i bs) ≡ true → is_digit byte ≡ true → NextDigit bs i
next_digit bs i byte few below same before here =
    let taken : list_all is_digit (take (i + 1) bs) ≡ true = all_taken i bs byte below same before ∙ here in
    let digits = all_digits (i + 1) (take (i + 1) bs) taken in
    let whole : take (i + 1) (take (i + 1) bs) ≡ take (i + 1) bs = take_all (i + 1) (take (i + 1) bs) (omega (arith, length-take (i + 1) bs)) in
    let all : AllDigits 10 (take (i + 1) bs) = rw whole at digits in
    let long : length (take (i + 1) bs) ≤ 19 = omega (arith, length-take (i + 1) bs) in
    let inside : i < length (take (i + 1) bs) = omega (arith, length-take (i + 1) bs) in
    let kept : get_or (take (i + 1) bs) i 0 ≡ get_or bs i 0 = get_or-take (i + 1) bs i 0 (omega arith) in
    let range : IsInRange 48 57 (get_or bs i 0) = rw kept at (digit_at (take (i + 1) bs) i all inside) in
    let digit = digit_value_digit (get_or bs i 0) range in
    let more = digits_value_more 10 bs i below in
    let small = digits_value-lt 10 (take (i + 1) bs) all in
    let most : 10 ^ length (take (i + 1) bs) ≤ 10 ^ 19 = pow-le-pow_right {n = 10} (omega arith) long in
    record { least = omega arith; value = omega arith; fits = omega arith; all = taken }

-- ---- whether all are digits

not_all : (n : ℕ) (bs : List ℕ) → list_all is_digit (take n bs) ≡ false → list_all is_digit bs ≡ false
not_all zero bs e = cc e
not_all (suc n) [] e = cc e
not_all (suc n) (c ∷ cs) e = by (is_digit c) (not_all n cs) e where
  by : (b : Bool) → (list_all is_digit (take n cs) ≡ false → list_all is_digit cs ≡ false) → (b && list_all is_digit (take n cs)) ≡ false → (b && list_all is_digit cs) ≡ false
  by true rest e = rest e
  by false rest e = refl

pub no_digits : (bs : List ℕ) (i byte : ℕ) → i < length bs → byte ≡ get_or bs i 0 → list_all is_digit (take i bs) ≡ true → is_digit byte ≡ false → are_digits bs ≡ false
unfolding are_digits
no_digits bs i byte below same before other =
    rw (not_all (i + 1) bs (all_taken i bs byte below same before ∙ other)) (no_end (nat_le 1 (length bs)) (nat_le (length bs) 19)) where
      no_end : (a b : Bool) → (a && (b && false)) ≡ false
      no_end true true = refl
      no_end true false = refl
      no_end false b = refl

pub too_few : (bs : List ℕ) → (length bs == 0) ≡ true → are_digits bs ≡ false
unfolding are_digits
too_few bs e = let b : nat_le 1 (length bs) ≡ false = grind (arith, nat_tests) in rw b refl

pub too_many : (bs : List ℕ) → 19 < length bs → are_digits bs ≡ false
unfolding are_digits
too_many bs long =
    let b : nat_le (length bs) 19 ≡ false = grind (arith, nat_tests) in
    rw b (no_more (nat_le 1 (length bs))) where
      no_more : (a : Bool) → (a && false) ≡ false
      no_more true = refl
      no_more false = refl

pub some_digits : (bs : List ℕ) → (length bs == 0) ≡ false → length bs ≤ 19 → list_all is_digit bs ≡ true → are_digits bs ≡ true
unfolding are_digits
some_digits bs some few all =
    let a : nat_le 1 (length bs) ≡ true = grind (arith, nat_tests) in
    let b : nat_le (length bs) 19 ≡ true = grind (arith, nat_tests) in
    rw (a, b, all) refl
