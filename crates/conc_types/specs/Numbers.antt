-- The whole numbers that cells hold.
use Rattle.std.specs.Prelude.{ℕ, ◌^◌, ℤ, pos, neg_ℤ, Bool, ◌&&◌, ◌==◌, nat_le, nat_lt, if◌then◌else◌, List, [], ◌∷◌, length, Option, None}
use Rattle.std.specs.Bool.{then_some}
use Rattle.std.specs.List.{list_all}
use Rattle.std.specs.Str.Parse.{digits_value}

abbrev pub is_digit : ℕ → Bool
is_digit byte = nat_le 48 byte && nat_le byte 57

-- 1 to 19 digits
unfoldable pub are_digits : List ℕ → Bool
are_digits bytes = nat_le 1 (length bytes) && (nat_le (length bytes) 19 && list_all is_digit bytes)

abbrev pub not_negative : List ℕ → Option ℤ
not_negative digits = then_some (are_digits digits && nat_lt (digits_value 10 digits) (2 ^ 63)) (pos (digits_value 10 digits))

abbrev pub negative : List ℕ → Option ℤ
negative digits = then_some (are_digits digits && nat_le (digits_value 10 digits) (2 ^ 63)) (neg_ℤ (pos (digits_value 10 digits)))

-- the number that a cell spells: an optional + or -, then digits, in 64 bits
unfoldable pub whole_number : List ℕ → Option ℤ
whole_number [] = None
whole_number (byte ∷ bytes) =
    if byte == 43 then not_negative bytes
    else (if byte == 45 then negative bytes else not_negative (byte ∷ bytes))
