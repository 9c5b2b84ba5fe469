-- Texts in XML.
use Rattle.std.specs.Prelude.{ℕ, Bool, not, ◌==◌, ◌||◌, if◌then◌else◌, List, [], ◌∷◌, codes, flat_map}

abbrev pub escaped_byte : ℕ → List ℕ
escaped_byte byte =
    if byte == 60 then codes "&lt;" else if byte == 62 then codes "&gt;" else if byte == 38 then codes "&amp;"
    else if byte == 34 then codes "&quot;" else byte ∷ []

-- none of the characters between which XML has its tags and values
abbrev pub is_plain : ℕ → Bool
is_plain byte = not (byte == 60 || byte == 62 || byte == 34)

unfoldable pub escaped : List ℕ → List ℕ
escaped text = flat_map escaped_byte text
