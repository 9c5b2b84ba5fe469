-- What stands round the bands: the head, the legend and the labels of the places.
use Rattle.std.specs.Prelude.{ℕ, ◌+◌, ◌-◌, List, [], ◌∷◌, ◌++◌, codes, length, Option, None, Some, slice_index_or, unwrap_or}
use Rattle.std.specs.Fmt.{decimal}
use Rattle.std.specs.Option.{option_map_or}
use Rattle.conc_types.specs.declared.event.Moment.{Moment}
use Rattle.conc_base_law.specs.Moments.{moment_text}
use Rattle.conc_show_model.specs.declared.model.Place.{Place}
use Rattle.conc_show_model.specs.Words.{place_text}
use Rattle.conc_show_svg.specs.Bars.{View}
use Rattle.conc_show_svg.specs.Geometry.{lane_top, row_top}
use Rattle.conc_show_svg.specs.Marks.{box_text, label_text}
use Rattle.conc_show_svg.specs.declared.geometry.Bar.{Bar}
use Rattle.conc_show_svg.specs.declared.frame.TheConstants.{LEGEND, PLACES, STYLE, SVG}

abbrev pub span_text : Moment → Moment → List ℕ
span_text first last = codes " from " ++ moment_text first ++ codes " to " ++ moment_text last

-- the first moment
abbrev pub first_of : List (Option Moment) → Option Moment
first_of [] = None
first_of (None ∷ later) = first_of later
first_of (Some first ∷ later) = Some first

-- the moment of the last event
abbrev pub last_of : List (Option Moment) → Option Moment
last_of moments = slice_index_or moments (length moments - 1) None

-- the first and the last of the moments of events, where there is one
unfoldable pub ends_text : List (Option Moment) → List ℕ
ends_text moments = option_map_or (λ first. span_text first (unwrap_or (last_of moments) first)) (first_of moments) []

unfoldable pub title_text : View → List ℕ
title_text v = codes "<text class=\"title\" x=\"16\" y=\"30\">History" ++ ends_text v.moments ++ codes "</text>\n"

unfoldable pub counts_text : View → ℕ → List ℕ
counts_text v runs =
    codes "<text class=\"soft\" x=\"16\" y=\"62\">" ++ decimal (length v.events) ++ codes " events, " ++ decimal (length v.rows)
    ++ codes " requests, " ++ decimal runs ++ codes " runs</text>\n"

-- where the rows end
abbrev pub bottom_of : View → ℕ
bottom_of v = row_top (length v.places) (length v.rows)

abbrev pub height_of : View → ℕ
height_of v = bottom_of v + 16

unfoldable pub size_text : ℕ → List ℕ
size_text height = SVG.now ++ decimal height ++ codes "\" viewBox=\"0 0 1200 " ++ decimal height ++ codes "\">\n"

unfoldable pub headings_text : ℕ → List ℕ
headings_text y = PLACES.now ++ codes "<text class=\"head\" x=\"16\" y=\"" ++ decimal y ++ codes "\">Requests</text>\n"

-- the head of the picture, up to the bands
unfoldable pub head_text : View → ℕ → List ℕ
head_text v runs =
    size_text (height_of v) ++ STYLE.now ++ title_text v ++ counts_text v runs ++ LEGEND.now ++ headings_text (row_top (length v.places) 0 - 8)

abbrev pub track_of : ℕ → Bar
track_of index = record { lane = index; left = 26000; width = 78000 }

-- the frame of a lane
unfoldable pub lane_frame : ℕ → Place → List ℕ
lane_frame index place =
    box_text (codes "lane") (track_of index) (lane_top index + 1) 18 ++ codes "/>\n" ++ label_text (codes "end") 25000 (lane_top index + 14)
    ++ place_text place ++ codes "</text>\n"
