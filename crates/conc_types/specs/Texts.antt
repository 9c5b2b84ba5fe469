-- Texts and names.
use Rattle.std.specs.Prelude.{ℕ, Bool, not, List, length, nat_le, ◌==◌, ◌&&◌}
use Rattle.std.specs.List.{list_all}
use Rattle.std.specs.Str.{is_utf8}

-- no control byte, which is one below 32 or 127
abbrev pub is_printable : ℕ → Bool
is_printable byte = nat_le 32 byte && not (byte == 127)

-- at most so many bytes of UTF-8 without control bytes
abbrev pub is_text : ℕ → List ℕ → Bool
is_text most bytes = nat_le (length bytes) most && list_all is_printable bytes && is_utf8 bytes

-- 1 to 80 bytes of UTF-8 without control bytes
abbrev pub is_name : List ℕ → Bool
is_name bytes = nat_le 1 (length bytes) && nat_le (length bytes) 80 && list_all is_printable bytes && is_utf8 bytes
