-- The whole picture.
use Rattle.std.specs.Prelude.{◌≡◌, ℕ, ◌+◌, ◌≤◌, ◌<◌, List, [], ◌∷◌, ◌++◌, AllPairs, codes, flat_map, length, None, slice_index_or}
use Rattle.conc_show_model.specs.declared.model.Chart.{Chart}
use Rattle.conc_show_model.specs.declared.model.Place.{Place}
use Rattle.conc_show_model.specs.declared.model.Planned.{Planned}
use Rattle.conc_show_model.specs.declared.model.Row.{Row}
use Rattle.conc_show_model.specs.declared.model.Run.{Run}
use Rattle.conc_show_model.specs.Places.{places_of}
use Rattle.conc_show_svg.specs.Bars.{View, lane_bar, row_bar}
use Rattle.conc_show_svg.specs.Frame.{bottom_of, head_text, lane_frame}
use Rattle.conc_show_svg.specs.Moments.{moments_from}
use Rattle.conc_show_svg.specs.Parts.{HasPart}
use Rattle.conc_show_svg.specs.Readings.{readings_from}
use Rattle.conc_show_svg.specs.Rows.{row_frame, span_text}
use Rattle.conc_show_svg.specs.Spans.{sets_of, waits_of}
use Rattle.conc_show_svg.specs.declared.geometry.Bar.{Bar}

-- the elements of a list, the first of which has index i
abbrev pub each_from : {X : Type 0} → (ℕ → X → List ℕ) → ℕ → List X → List ℕ
each_from f i [] = []
each_from f i (x ∷ later) = f i x ++ each_from f (i + 1) later

-- the frames of the lanes
unfoldable pub lane_frames : List Place → List ℕ
lane_frames places = each_from lane_frame 0 places

-- the frames of the rows, below so many lanes
unfoldable pub row_frames : List Planned → ℕ → List Row → List ℕ
row_frames planned lanes rows = each_from (row_frame planned lanes) 0 rows

-- what the elements of the picture are made of
abbrev pub view : Chart → View
view chart = record { events = chart.events; rows = chart.rows; places = places_of chart.runs; moments = moments_from None chart.events }

-- the frames, the readings, the waits, the sets and the bars of the runs
unfoldable pub bands_text : View → Chart → List ℕ
bands_text v chart =
    lane_frames v.places ++ row_frames chart.planned (length v.places) v.rows
    ++ readings_from (length v.events) (bottom_of v) 0 0 v.events
    ++ flat_map (span_text v) (waits_of v.events) ++ flat_map (span_text v) (sets_of v.events)
    ++ flat_map (row_bar v) chart.runs ++ flat_map (lane_bar v) chart.runs

-- the picture
unfoldable pub picture : Chart → List ℕ
picture chart = head_text (view chart) (length chart.runs) ++ bands_text (view chart) chart ++ codes "</svg>\n"

-- two bars in one lane are apart: the earlier one ends before the later one begins
abbrev pub AreClear : (Run → Bar) → List Run → Type 0
AreClear bar runs = AllPairs (λ (a b : Run). (bar a).lane ≡ (bar b).lane → (bar a).left + (bar a).width ≤ (bar b).left) runs

-- two bars of one request are apart
abbrev pub AreClearEach : (Run → Bar) → List Run → Type 0
AreClearEach bar runs = AllPairs (λ (a b : Run). a.request ≡ b.request → (bar a).left + (bar a).width ≤ (bar b).left) runs

-- a bar lies where the events are drawn
abbrev pub IsInside : Bar → Type 0
IsInside bar = (26000 ≤ bar.left) × (bar.left + bar.width ≤ 104000)

-- each row has its frame, below the lanes, at its index
abbrev pub HasFrames : List ℕ → List Planned → ℕ → List Row → Type 0
HasFrames text planned lanes rows = (i : ℕ) → (d : Row) → i < length rows → HasPart text (row_frame planned lanes i (slice_index_or rows i d))
