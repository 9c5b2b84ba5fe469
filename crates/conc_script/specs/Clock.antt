-- The clock file: a reading on each line.
use Rattle.std.specs.Prelude.{◌≡◌, ℕ, ◌-◌, Bool, true, false, ◌&&◌, ◌==◌, nat_lt, if◌then◌else◌, List, [], ◌∷◌, codes, drop, length, map, take, Option, None, Some, is_none}
use Rattle.std.specs.Option.{option_and_then, option_map}
use Rattle.std.specs.Str.{bytes_eq}
use Rattle.conc_types.specs.declared.kind.RefusalKind.{RefusalKind}
use Rattle.conc_types.specs.declared.kind.RefusalKind.TheVariants as refused
use Rattle.conc_types.specs.declared.event.Moment.{Moment}
use Rattle.conc_types.specs.declared.script.Reading.{Reading}
use Rattle.conc_types.specs.declared.script.Readings.{Readings}
use Rattle.conc_types.specs.Faults.{Fault, first_broken, first_fault}
use Rattle.conc_types.specs.Words.{is_empty, numbered}
use Rattle.conc_base_law.specs.Calendar.{moment_of}

-- ---- lines

abbrev pub onto_first : ℕ → List (List ℕ) → List (List ℕ)
onto_first byte [] = (byte ∷ []) ∷ []
onto_first byte (line ∷ lines) = (byte ∷ line) ∷ lines

abbrev pub begins_with_line_feed : List ℕ → Bool
begins_with_line_feed [] = false
begins_with_line_feed (byte ∷ bytes) = byte == 10

-- the lines of a text, each without its end, which is LF, or CR and LF; the last one may lack it
abbrev pub lines_of : List ℕ → List (List ℕ)
lines_of [] = []
lines_of (byte ∷ bytes) =
    if byte == 10 then [] ∷ lines_of bytes
    else (if byte == 13 && begins_with_line_feed bytes then lines_of bytes else onto_first byte (lines_of bytes))

-- ---- readings

abbrev pub reading : Bool → Moment → Reading
reading early t = record { moment = t; early = early }

-- the line ends with a blank and the mark of an early reading
abbrev pub is_marked : List ℕ → Bool
is_marked line = bytes_eq (drop (length line - 2) line) (codes " !")

-- the reading that a line is: a moment, and then the mark or nothing
unfoldable pub reading_of : List ℕ → Option Reading
reading_of line =
    if is_marked line then option_map (reading true) (moment_of (take (length line - 2) line))
    else option_map (reading false) (moment_of line)

-- ---- faults

-- the reading of the line with this number, from 1
unfoldable pub reading_at : List (List ℕ) → ℕ → Option Reading
reading_at lines n = option_and_then reading_of (numbered lines n)

abbrev pub is_earlier : Option Reading → Option Reading → Bool
is_earlier (Some q) (Some before) = nat_lt q.moment.seconds before.moment.seconds
is_earlier _ _ = false

-- the first rule that a line breaks: there are at most 65,536 lines, each is a reading, none is earlier than the one before
unfoldable pub line_kind : List (List ℕ) → ℕ → Option RefusalKind
line_kind lines n =
    first_broken ((nat_lt 65536 n, refused.TooManyLines) ∷ (is_none (reading_at lines n), refused.BadField) ∷ (is_earlier (reading_at lines n) (reading_at lines (n - 1)), refused.ClockBack) ∷ [])

-- the first fault of a clock file: its size, that it is empty, or that of a line
unfoldable pub clock_fault : List ℕ → Option Fault
clock_fault bytes =
    if nat_lt 67108864 (length bytes) then Some (0, refused.TooManyLines)
    else (if is_empty (lines_of bytes) then Some (1, refused.BadField) else first_fault (line_kind (lines_of bytes)) 1 (length (lines_of bytes)))

-- the bytes have no fault, and their lines are these readings
pub record SpellsClock (bytes : List ℕ) (readings : Readings) : Type 0 where
  pub faultless : clock_fault bytes ≡ None
  pub list : map reading_of (lines_of bytes) ≡ map (λ q. Some q) readings.list
