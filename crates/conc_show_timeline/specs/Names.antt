-- Names cut to a number of columns.
use Rattle.std.specs.Prelude.{ℕ, ◌-◌, false, nat_le, if◌then◌else◌, List, [], ◌∷◌, ◌++◌, chars, encode_utf8_all, replicate, sum_by, unwrap_or}
use Rattle.std.specs.Str.{is_utf8}
use Rattle.unicode_width.specs.Width.{char_width}

-- the columns of a character
abbrev pub columns_of : ℕ → ℕ
columns_of c = unwrap_or (char_width false c) 0

-- the columns of characters
abbrev pub text_columns : List ℕ → ℕ
text_columns cs = sum_by columns_of cs

-- the first characters, as many as so many columns take
abbrev pub cut : ℕ → List ℕ → List ℕ
cut room [] = []
cut room (c ∷ later) = if nat_le (columns_of c) room then c ∷ cut (room - columns_of c) later else []

abbrev pub blanks : ℕ → List ℕ
blanks n = replicate n 32

-- a name, which is UTF-8
abbrev pub readable : List ℕ → List ℕ
readable name = if is_utf8 name then name else []

-- the name, cut or filled up with blanks to so many columns
unfoldable pub cell : ℕ → List ℕ → List ℕ
cell room name = let kept = cut room (chars (readable name)) in encode_utf8_all kept ++ blanks (room - text_columns kept)
