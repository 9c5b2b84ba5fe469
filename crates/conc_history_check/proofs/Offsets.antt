-- The offset after the events lies in the text.
use Rattle.std.proofs.Common.{◌+◌, ◌≤◌, ℕ, Bool, true, false, cond, List, [], ◌∷◌, length, arith}
use Rattle.std.specs.Prelude.{◌==◌, Some, unwrap_or}
use Rattle.conc_history_lines.specs.History.{history_in, is_last, offset_after, onto_first, whole_lines}

-- the bytes of some lines, with the LF of each
abbrev bytes_of : List (List ℕ) → ℕ
bytes_of [] = 0
bytes_of (line ∷ lines) = length line + 1 + bytes_of lines

onto_bytes : (byte : ℕ) (lines : List (List ℕ)) → bytes_of (onto_first byte lines) ≤ 1 + bytes_of lines
onto_bytes byte [] = omega arith
onto_bytes byte (line ∷ lines) = omega arith

-- the lines of a text have no more bytes than the text
lines_within : (bytes : List ℕ) → bytes_of (whole_lines bytes) ≤ length bytes
lines_within [] = omega arith
lines_within (byte ∷ bytes) = by (byte == 10) (lines_within bytes) (onto_bytes byte (whole_lines bytes)) where
  by : (b : Bool) → bytes_of (whole_lines bytes) ≤ length bytes → bytes_of (onto_first byte (whole_lines bytes)) ≤ 1 + bytes_of (whole_lines bytes)
      → bytes_of (cond b ([] ∷ whole_lines bytes) (onto_first byte (whole_lines bytes))) ≤ length (byte ∷ bytes)
  by true h o = omega arith
  by false h o = omega arith

-- the offset after one of some lines is within all of them
after_within : (offset most : ℕ) (lines : List (List ℕ)) → offset + bytes_of lines ≤ most → unwrap_or (offset_after offset lines) most ≤ most
unfolding offset_after
after_within offset most [] h = omega arith
after_within offset most (line ∷ lines) h = by (is_last line) (after_within (offset + length line + 1) most lines (omega arith)) where
  by : (b : Bool) → unwrap_or (offset_after (offset + length line + 1) lines) most ≤ most
      → unwrap_or (cond b (Some (offset + length line + 1)) (offset_after (offset + length line + 1) lines)) most ≤ most
  by true rest = omega arith
  by false rest = rest

pub next_within : (starts bytes : List ℕ) → (history_in starts bytes).next ≤ length bytes
unfolding history_in
next_within starts bytes = after_within 0 (length bytes) (whole_lines bytes) (let h = lines_within bytes in omega arith)
