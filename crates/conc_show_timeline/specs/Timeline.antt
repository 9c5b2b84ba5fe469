-- The whole text.
use Rattle.std.specs.Prelude.{ℕ, ◌+◌, Bool, true, false, ◌&&◌, ◌||◌, ◌==◌, if◌then◌else◌, List, [], ◌∷◌, ◌++◌, codes, flat_map, length}
use Rattle.conc_types.specs.declared.event.Event.{Event}
use Rattle.conc_types.specs.declared.event.Event.TheVariants as event
use Rattle.conc_show_model.specs.declared.model.Chart.{Chart}
use Rattle.conc_show_model.specs.Places.{places_of}
use Rattle.conc_show_timeline.specs.Columns.{column_of, over_columns}
use Rattle.conc_show_timeline.specs.Lanes.{lane_text}
use Rattle.conc_show_timeline.specs.Names.{blanks}
use Rattle.conc_show_timeline.specs.Rows.{row_text}

abbrev pub is_tick : Event → Bool
is_tick (event.Tick t) = true
is_tick _ = false

-- one of these events, the first of which has index i of so many, is a reading in the column
abbrev pub has_tick : ℕ → ℕ → ℕ → List Event → Bool
has_tick column count i [] = false
has_tick column count i (e ∷ later) = (is_tick e && column_of count i == column) || has_tick column count (i + 1) later

abbrev pub ruler_mark : List Event → ℕ → ℕ
ruler_mark events column = if has_tick column (length events) 0 events then 124 else 45

-- | in each column that has a reading, and - in every other
unfoldable pub ruler_text : List Event → List ℕ
ruler_text events = blanks 29 ++ over_columns (λ c. ruler_mark events c ∷ []) ++ codes "\n"

-- the lines of the places, an empty line, a ruler and the rows
unfoldable pub timeline_text : Bool → Chart → List ℕ
timeline_text colours chart =
    flat_map (lane_text chart.events) (places_of chart.runs) ++ codes "\n" ++ ruler_text chart.events
    ++ flat_map (row_text colours chart.events) chart.rows
