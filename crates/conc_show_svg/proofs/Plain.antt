-- What is escaped has none of the characters of tags and values.
use Rattle.std.proofs.Common.{◌≡◌, ℕ, Bool, true, false, not, ◌==◌, ◌||◌, ◌&&◌, List, [], ◌∷◌, ◌++◌, flat_map, refl, ap, if◌then◌else◌}
use Rattle.std.specs.Prelude.{codes}
use Rattle.std.specs.List.{list_all}
use Rattle.std.proofs.lemmas.Bool.{and_from, and_parts, or_from}
use Rattle.conc_show_svg.specs.Escaped.{escaped, escaped_byte, is_plain}

plain_append : (xs ys : List ℕ) → list_all is_plain xs ≡ true → list_all is_plain ys ≡ true → list_all is_plain (xs ++ ys) ≡ true
plain_append [] ys first second = second
plain_append (x ∷ xs) ys first second =
    let parts = and_parts (is_plain x) (list_all is_plain xs) first in
    and_from (is_plain x) (list_all is_plain (xs ++ ys)) parts.0 (plain_append xs ys parts.1 second)

plain_case : (byte : ℕ) (less more both quote : Bool) → (byte == 60) ≡ less → (byte == 62) ≡ more → (byte == 34) ≡ quote
    → list_all is_plain (if less then codes "&lt;" else if more then codes "&gt;" else if both then codes "&amp;" else if quote then codes "&quot;" else byte ∷ []) ≡ true
plain_case byte true more both quote a b c = refl
plain_case byte false true both quote a b c = refl
plain_case byte false false true quote a b c = refl
plain_case byte false false false true a b c = refl
plain_case byte false false false false a b c =
    ap (λ (found : Bool). not found && true) (or_from (byte == 60 || byte == 62) (byte == 34) (or_from (byte == 60) (byte == 62) a b) c)

plain_byte : (byte : ℕ) → list_all is_plain (escaped_byte byte) ≡ true
plain_byte byte = plain_case byte (byte == 60) (byte == 62) (byte == 38) (byte == 34) refl refl refl

pub plain_text : (text : List ℕ) → list_all is_plain (escaped text) ≡ true
unfolding escaped
plain_text [] = refl
plain_text (byte ∷ later) = plain_append (escaped_byte byte) (flat_map escaped_byte later) (plain_byte byte) (plain_text later)
