-- The table of a history: the row that a line is.
use Rattle.std.specs.Prelude.{ℕ, ◌+◌, Bool, ◌&&◌, nat_eq, nat_lt, ◌==◌, if◌then◌else◌, List, [], ◌∷◌, codes, drop, length, Option, None, Some}
use Rattle.std.specs.Bool.{then_some}
use Rattle.std.specs.List.{before_first, find, starts_with, sum_by}
use Rattle.std.specs.Option.{option_and_then, option_map_or}
use Rattle.conc_types.specs.declared.event.Phase.{Phase}
use Rattle.conc_types.specs.declared.event.Phase.TheVariants as phase
use Rattle.conc_types.specs.declared.event.RequestId.{RequestId}
use Rattle.conc_types.specs.declared.event.Status.{Status}
use Rattle.conc_types.specs.declared.event.Status.TheVariants as status
use Rattle.conc_types.specs.Texts.{is_name}
use Rattle.conc_base_law.specs.Text.{phase_word, status_word}
use Rattle.conc_history_lines.specs.History.{whole_lines}
use Rattle.conc_history_lines.specs.Numbers.{id_of}
use Rattle.conc_show_model.specs.declared.model.Row.{Row}

-- ---- the row that a line is

abbrev pub phases : List Phase
phases = phase.Pending ∷ phase.Running ∷ phase.Completed ∷ phase.Inactive ∷ []

-- the statuses that a request can have in a phase
abbrev pub statuses_of : Phase → List Status
statuses_of phase.Pending = status.Normal ∷ status.Standby ∷ status.Scheduled ∷ status.Waiting ∷ []
statuses_of phase.Running = status.Normal ∷ status.Paused ∷ status.Terminating ∷ []
statuses_of phase.Completed = status.Normal ∷ status.Warning ∷ status.Error ∷ status.Cancelled ∷ status.Terminated ∷ []
statuses_of phase.Inactive = status.OnHold ∷ status.Disabled ∷ status.NoManager ∷ []

-- the text begins with the word and a blank
unfoldable pub begins_with : List ℕ → List ℕ → Bool
begins_with word text = starts_with nat_eq text word && starts_with nat_eq (drop (length word) text) (codes " ")

-- what stands behind them
abbrev pub behind : List ℕ → List ℕ → List ℕ
behind word text = drop (length word + 1) text

unfoldable pub phase_at : List ℕ → Option Phase
phase_at text = find (λ p. begins_with (phase_word p) text) phases

unfoldable pub status_at : Phase → List ℕ → Option Status
status_at p text = find (λ s. begins_with (status_word s) text) (statuses_of p)

unfoldable pub first_word : List ℕ → List ℕ
first_word line = before_first (λ byte. byte == 32) line

abbrev pub named_row : RequestId → Phase → Status → List ℕ → Option Row
named_row r p s name = then_some (is_name name) (record { request = r; phase = p; status = s; name = name })

abbrev pub row_with : RequestId → Phase → List ℕ → Option Row
row_with r p text = option_and_then (λ s. named_row r p s (behind (status_word s) text)) (status_at p text)

abbrev pub row_numbered : RequestId → List ℕ → Option Row
row_numbered r text = option_and_then (λ p. row_with r p (behind (phase_word p) text)) (phase_at text)

-- the row that a line without its LF is, if it is a line of a table
unfoldable pub row_of : List ℕ → Option Row
row_of line = option_and_then (λ r. row_numbered r (behind (first_word line) line)) (id_of (first_word line))

-- ---- the rows of lines

-- the same, if its number is above another one
unfoldable pub row_above : ℕ → List ℕ → Option Row
row_above last line = option_and_then (λ row. then_some (nat_lt last row.request.number) row) (row_of line)

-- the rows of the first lines that are lines of the table, where the number before is the last one
unfoldable pub rows_from : ℕ → List (List ℕ) → List Row
rows_from last [] = []
rows_from last (line ∷ lines) = option_map_or (λ row. row ∷ rows_from row.request.number lines) (row_above last line) []

-- what a watcher printed
unfoldable pub is_watch_line : List ℕ → Bool
is_watch_line line = starts_with nat_eq line (codes "watch ")

-- the number of the first line that is none of a watcher, of lines that are numbered from this number on. It is the one past the last where the text is not whole
unfoldable pub watch_fault : Bool → ℕ → List (List ℕ) → Option ℕ
watch_fault whole number [] = if whole then None else Some number
watch_fault whole number (line ∷ lines) = if is_watch_line line then watch_fault whole (number + 1) lines else Some number

-- the number of the first line that is neither a line of the table nor, behind these, one of a watcher
unfoldable pub table_fault : Bool → ℕ → ℕ → List (List ℕ) → Option ℕ
table_fault whole last number [] = watch_fault whole number []
table_fault whole last number (line ∷ lines) =
    option_map_or (λ row. table_fault whole row.request.number (number + 1) lines) (row_above last line) (watch_fault whole number (line ∷ lines))

-- ---- whole texts

-- the bytes of lines, each with its LF
abbrev pub bytes_of_lines : List (List ℕ) → ℕ
bytes_of_lines lines = sum_by (λ line. length line + 1) lines

-- each line of the text ends with LF
abbrev pub is_whole : List ℕ → Bool
is_whole text = bytes_of_lines (whole_lines text) == length text

-- the number of the first line of a text that is neither, where its first line has this number
abbrev pub table_fault_of : ℕ → List ℕ → Option ℕ
table_fault_of first text = table_fault (is_whole text) 0 first (whole_lines text)
