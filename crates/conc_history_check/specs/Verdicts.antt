-- What a verdict says of the text of a history.
use Rattle.std.specs.Prelude.{◌≡◌, ◌⊎◌, ◌↔◌, ℕ, ◌+◌, ◌-◌, ◌≤◌, Bool, List, drop, length, reverse, take, None, Some, IsTrue}
use Rattle.conc_types.specs.declared.event.Event.{Event}
use Rattle.conc_types.specs.declared.plan.Plan.{Plan}
use Rattle.conc_types.specs.declared.script.Reading.{Reading}
use Rattle.conc_types.specs.Words.{numbered}
use Rattle.conc_base_law.specs.Law.{Finished, Lawful}
use Rattle.conc_base_law.specs.Text.{table_text}
use Rattle.conc_history_lines.specs.declared.history.Lines.{Lines}
use Rattle.conc_history_lines.specs.History.{history_in, whole_lines}
use Rattle.conc_history_lines.specs.Places.{starts_of}
use Rattle.conc_history_check.specs.Positions.{IsFirstBad}
use Rattle.conc_history_check.specs.declared.verdict.Verdict.{Verdict}
use Rattle.conc_history_check.specs.declared.verdict.Verdict.TheVariants as verdict

-- ---- the parts of a text

-- what is read of it as far as the line `--`
abbrev pub read : Plan → List ℕ → Lines
read plan bytes = history_in (starts_of plan) bytes

abbrev pub events_in : Plan → List ℕ → List Event
events_in plan bytes = (read plan bytes).events

-- the lines behind the line `--`
abbrev pub lines_behind : Plan → List ℕ → List (List ℕ)
lines_behind plan bytes = whole_lines (drop (read plan bytes).next bytes)

-- the lines of the table that is due after the events
abbrev pub table_lines : Plan → List ℕ → List (List ℕ)
table_lines plan bytes = whole_lines (table_text plan (reverse (events_in plan bytes)))

-- ---- the table

-- the lines begin with those of the table, whatever follows them
abbrev pub BeginsWith : List (List ℕ) → List (List ℕ) → Type 0
BeginsWith table lines = take (length table) lines ≡ table

-- the line with this number, from 1, is the first of the table in whose place another line stands, or none
pub record IsFirstOther (table lines : List (List ℕ)) (number : ℕ) : Type 0 where
  pub first : 1 ≤ number
  pub within : number ≤ length table
  pub before : take (number - 1) lines ≡ take (number - 1) table
  pub other : numbered lines number ≡ numbered table number → ⊥

-- each line before the line `--` is an event line, and the table follows
pub record IsWhole (plan : Plan) (bytes : List ℕ) : Type 0 where
  pub whole : (read plan bytes).bad ≡ None
  pub table : BeginsWith (table_lines plan bytes) (lines_behind plan bytes)

-- the line is the first of the table in whose place another stands, or none; the events and the line `--` stand before the table
pub record IsBadTableLine (plan : Plan) (bytes : List ℕ) (line : ℕ) : Type 0 where
  pub whole : (read plan bytes).bad ≡ None
  pub number : ℕ
  pub line_is : line ≡ length (events_in plan bytes) + 1 + number
  pub other : IsFirstOther (table_lines plan bytes) (lines_behind plan bytes) number

-- the line is the first that is no event line, or the first of the table in whose place another stands, or none
abbrev pub IsBadLine : Plan → List ℕ → ℕ → Type 0
IsBadLine plan bytes line = ((read plan bytes).bad ≡ Some line) ⊎ IsBadTableLine plan bytes line

-- ---- verdicts

-- the text is that of a lawful history with so many events, and finished or not
pub record IsLawful (plan : Plan) (readings : List Reading) (bytes : List ℕ) (events : ℕ) (finished : Bool) : Type 0 where
  pub whole : IsWhole plan bytes
  pub lawful : Lawful plan readings (events_in plan bytes)
  pub events_are : events ≡ length (events_in plan bytes)
  pub finished_is : IsTrue finished ↔ Finished plan readings (events_in plan bytes)

-- the line is that of the first event that is not lawful, and event i stands in line i; or all events are lawful, and the line is bad
abbrev pub IsNotLawful : Plan → List Reading → List ℕ → ℕ → Type 0
IsNotLawful plan readings bytes line =
    IsFirstBad plan readings (events_in plan bytes) line ⊎ (Lawful plan readings (events_in plan bytes) × IsBadLine plan bytes line)

abbrev pub IsVerdict : Plan → List Reading → List ℕ → Verdict → Type 0
IsVerdict plan readings bytes (verdict.Lawful events finished) = IsLawful plan readings bytes events finished
IsVerdict plan readings bytes (verdict.NotLawful line) = IsNotLawful plan readings bytes line
