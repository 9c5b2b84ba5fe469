-- What the digits of a decimal tell of its text, and of what `parse` reads from it.
use Rattle.std.proofs.Common.{◌≡◌, refl, ℕ, ◌<◌, ◌^◌, subst, Bool, true, false, ◌&&◌, List, [], ◌∷◌, length, arith, Result, Ok, Err, Some, None}
use Rattle.std.specs.Bool.{then_some}
use Rattle.std.specs.Char.{is_ascii_digit, digit_value}
use Rattle.std.specs.Int.{IsInRange}
use Rattle.std.specs.List.{list_all}
use Rattle.std.specs.Prelude.{nat_lt}
use Rattle.std.specs.Result.{OkIff, MatchResult, result_ok}
use Rattle.std.specs.Str.{IsUtf8}
use Rattle.std.specs.Str.Parse.{AllDigits, digits_value, ParsesUnsigned}
use Rattle.std.proofs.lemmas.Bool.Decides.{nat_tests}
use Rattle.std.proofs.lemmas.Fmt.{IsAscii-from_digits}
use Rattle.std.proofs.lemmas.Str.{IsUtf8-from_ascii, digit_value_digit}
use Rattle.std.proofs.lemmas.Str.Parse.{parse_digits, numerals_by_value, tells_digits}
use Rattle.conc_types.specs.Decimals.{is_decimal, decimal_value}

both : (x y : Bool) → (x && y) ≡ true → (x ≡ true) × (y ≡ true)
both true y e = (refl, e)
both false y e = absurd cc

is_digit : (c : ℕ) → is_ascii_digit c ≡ true → IsInRange 48 57 c
is_digit c e = grind (arith, nat_tests)

pub digit_below : (c : ℕ) → is_ascii_digit c ≡ true → digit_value c < 10
digit_below c e = let k = is_digit c e in omega (arith, digit_value_digit c k)

all_digits : (bs : List ℕ) → list_all is_ascii_digit bs ≡ true → AllDigits 10 bs
all_digits [] e = tt
all_digits (c ∷ cs) e = let k = both (is_ascii_digit c) (list_all is_ascii_digit cs) e in (digit_below c k.0, all_digits cs k.1)

pub decimal_digits : (bs : List ℕ) → is_decimal bs ≡ true → AllDigits 10 bs
decimal_digits [] e = tt
decimal_digits (c ∷ cs) e =
    let k = both (is_ascii_digit c) _ e in
    let m = both (list_all is_ascii_digit cs) _ k.1 in
    (digit_below c k.0, all_digits cs m.0)

decimal_utf8 : (bs : List ℕ) → is_decimal bs ≡ true → IsUtf8 bs
decimal_utf8 bs e = IsUtf8-from_ascii bs (IsAscii-from_digits bs (decimal_digits bs e))

decimal_some : (bs : List ℕ) → is_decimal bs ≡ true → 0 < length bs
decimal_some [] e = absurd cc
decimal_some (c ∷ cs) e = omega arith

value_of : {E : Type 0} → (r : Result ℕ E) (t : Bool) (k n : ℕ) → t ≡ true → 0 < k → OkIff r ((0 < k) × (n < 2 ^ 64)) n → result_ok r ≡ then_some (t && nat_lt n (2 ^ 64)) n
value_of (Ok x) t k n e some h = let below = h.0.1 in let is = h.1 in rw e (grind (arith, nat_tests))
value_of (Err x) t k n e some h = let not_below : ¬ (n < 2 ^ 64) = λ below. h (some, below) in rw e (grind (arith, nat_tests))

-- `parse` reads the value of a decimal
pub parsed_decimal : {E : Type 0} → (bs text : List ℕ) (r : Result ℕ E) → is_decimal bs ≡ true → text ≡ bs → ParsesUnsigned 64 10 text r → result_ok r ≡ decimal_value bs
parsed_decimal bs text r e same h =
    let own = numerals_by_value (AllDigits 10) tells_digits in
    let here = subst (λ (x : List ℕ). ParsesUnsigned 64 10 x r) same h in
    value_of r (is_decimal bs) (length bs) (digits_value 10 bs) e (decimal_some bs e) (parse_digits own 64 bs r here (decimal_digits bs e))

-- a decimal is text
pub decimal_is_text : {T E : Type 0} → (bs : List ℕ) (r : Result T E) (P : T → Type 0) (Q : E → Type 0) → is_decimal bs ≡ true → MatchResult r P (λ x. ¬ (IsUtf8 bs) × Q x) → result_ok r ≡ None → ⊥
decimal_is_text bs (Ok x) P Q e h none = absurd cc
decimal_is_text bs (Err x) P Q e h none = h.0 (decimal_utf8 bs e)

-- the text of a value is the bytes
pub text_of : {T E : Type 0} → (r : Result T E) (P : T → Type 0) (Q : E → Type 0) (x : T) → MatchResult r P Q → result_ok r ≡ Some x → P x
text_of (Ok y) P Q x h some = let same : y ≡ x = cc in subst (λ (z : _). P z) same h
text_of (Err y) P Q x h some = absurd cc
