-- What is read of the text of a history.
use Rattle.std.specs.Prelude.{ℕ, ◌+◌, Bool, ◌==◌, if◌then◌else◌, List, [], ◌∷◌, codes, length, Option, None, Some, is_some, unwrap_or}
use Rattle.std.specs.Option.{option_map_or}
use Rattle.std.specs.Str.{bytes_eq}
use Rattle.conc_types.specs.declared.event.Event.{Event}
use Rattle.conc_history_lines.specs.declared.history.Lines.{Lines}
use Rattle.conc_history_lines.specs.EventLines.{event_of_line}

-- ---- lines

abbrev pub onto_first : ℕ → List (List ℕ) → List (List ℕ)
onto_first byte [] = []
onto_first byte (line ∷ lines) = (byte ∷ line) ∷ lines

-- the lines of a text that end with LF, each without it; bytes after the last LF are none of them
abbrev pub whole_lines : List ℕ → List (List ℕ)
whole_lines [] = []
whole_lines (byte ∷ bytes) = if byte == 10 then [] ∷ whole_lines bytes else onto_first byte (whole_lines bytes)

-- the line that ends the events
abbrev pub is_last : List ℕ → Bool
is_last line = bytes_eq line (codes "--")

-- ---- what they say

-- the events of the lines before the first that is `--` or no event line
unfoldable pub events_in : List ℕ → List (List ℕ) → List Event
events_in starts [] = []
events_in starts (line ∷ lines) =
    if is_last line then [] else option_map_or (λ e. e ∷ events_in starts lines) (event_of_line starts line) []

-- the first line that is no event line before a line `--`, or the one past the last where no `--` comes, of lines that are numbered from this number on
unfoldable pub bad_from : List ℕ → ℕ → List (List ℕ) → Option ℕ
bad_from starts number [] = Some number
bad_from starts number (line ∷ lines) =
    if is_last line then None
    else (if is_some (event_of_line starts line) then bad_from starts (number + 1) lines else Some number)

-- the number of the first of some lines, unless it is `--`
abbrev pub bad_at : ℕ → List (List ℕ) → Option ℕ
bad_at number [] = Some number
bad_at number (line ∷ lines) = if is_last line then None else Some number

-- the offset after the first line `--`, of lines that begin at this offset
unfoldable pub offset_after : ℕ → List (List ℕ) → Option ℕ
offset_after offset [] = None
offset_after offset (line ∷ lines) =
    if is_last line then Some (offset + length line + 1) else offset_after (offset + length line + 1) lines

-- what is read of the bytes. The offset is their length where no line is `--`
unfoldable pub history_in : List ℕ → List ℕ → Lines
history_in starts bytes = record {
  events = events_in starts (whole_lines bytes);
  bad = bad_from starts 1 (whole_lines bytes);
  next = unwrap_or (offset_after 0 (whole_lines bytes)) (length bytes);
}
