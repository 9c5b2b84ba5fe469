-- What is read of the text of a history.
use Rattle.std.specs.Prelude.{ℕ, ◌+◌, ◌*◌, List, drop, length, map, Option}
use Rattle.std.specs.List.{range_with_len}
use Rattle.std.specs.Option.{option_map, option_or}
use Rattle.conc_types.specs.declared.event.Event.{Event}
use Rattle.conc_history_lines.specs.declared.history.Lines.{Lines}
use Rattle.conc_history_lines.specs.History.{history_in, whole_lines}
use Rattle.conc_show_model.specs.declared.fail.ChartRefusal.{ChartRefusal}
use Rattle.conc_show_model.specs.declared.fail.ChartWhy.TheVariants as why
use Rattle.conc_show_model.specs.declared.model.Row.{Row}
use Rattle.conc_show_model.specs.Judging.{events_fault}
use Rattle.conc_show_model.specs.Rows.{rows_from, table_fault_of}
use Rattle.conc_show_model.specs.Whys.{in_history}

-- the first place of each of 64 managers, and the count of all places
unfoldable pub first_places : List ℕ
first_places = map (λ manager. 64 * manager) (range_with_len 0 65)

abbrev pub lines_of : List ℕ → Lines
lines_of history = history_in first_places history

-- the events of a history
abbrev pub events_of : List ℕ → List Event
events_of history = (lines_of history).events

-- what stands behind the line `--`
abbrev pub table_of : List ℕ → List ℕ
table_of history = drop (lines_of history).next history

-- the rows of its table
abbrev pub rows_of : List ℕ → List Row
rows_of history = rows_from 0 (whole_lines (table_of history))

-- ---- why it is refused

abbrev pub lines_fault : List ℕ → Option ChartRefusal
lines_fault history = option_map (in_history why.NoEventLine) (lines_of history).bad

-- the table begins behind the line `--`
abbrev pub rows_fault : List ℕ → Option ChartRefusal
rows_fault history =
    option_map (in_history why.NoTableLine) (table_fault_of (length (events_of history) + 2) (table_of history))

-- first the event lines, then the table, then the events one by one
abbrev pub history_fault : List ℕ → Option ChartRefusal
history_fault history =
    option_or (lines_fault history) (option_or (rows_fault history) (events_fault (rows_of history) (events_of history)))
