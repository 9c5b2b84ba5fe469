-- Decimal numbers.
use Rattle.std.specs.Prelude.{ℕ, ◌^◌, Bool, false, not, ◌&&◌, ◌||◌, ◌==◌, nat_lt, List, [], ◌∷◌, Option}
use Rattle.std.specs.Bool.{then_some}
use Rattle.std.specs.Char.{is_ascii_digit}
use Rattle.std.specs.List.{list_all}
use Rattle.std.specs.Str.Parse.{digits_value}
use Rattle.conc_types.specs.Words.{is_empty}

-- `0`, or digits of which the first is not `0`
abbrev pub is_decimal : List ℕ → Bool
is_decimal [] = false
is_decimal (byte ∷ bytes) =
    is_ascii_digit byte && (list_all is_ascii_digit bytes && (not (byte == 48) || is_empty bytes))

-- the number that a decimal of 64 bits spells
abbrev pub decimal_value : List ℕ → Option ℕ
decimal_value bytes =
    then_some (is_decimal bytes && nat_lt (digits_value 10 bytes) (2 ^ 64)) (digits_value 10 bytes)
