-- The bars of runs.
use Rattle.std.specs.Prelude.{ℕ, ◌+◌, ◌*◌, ◌/◌, nat_lt, if◌then◌else◌, List, [], ◌++◌, codes, length, Option, None, Some, slice_get}
use Rattle.std.specs.Fmt.{decimal}
use Rattle.conc_types.specs.declared.event.Event.{Event}
use Rattle.conc_types.specs.declared.event.Event.TheVariants as event
use Rattle.conc_types.specs.declared.event.Moment.{Moment}
use Rattle.conc_types.specs.declared.event.Outcome.{Outcome}
use Rattle.conc_types.specs.declared.event.Outcome.TheVariants as outcome
use Rattle.conc_types.specs.declared.event.RequestId.{RequestId}
use Rattle.conc_show_model.specs.declared.model.Place.{Place}
use Rattle.conc_show_model.specs.declared.model.Row.{Row}
use Rattle.conc_show_model.specs.declared.model.Run.{Run}
use Rattle.conc_show_model.specs.Words.{place_text}
use Rattle.conc_show_svg.specs.Escaped.{escaped}
use Rattle.conc_show_svg.specs.Geometry.{bar_of, lane_of, lane_top, row_top}
use Rattle.conc_show_svg.specs.Labels.{name_of, row_of}
use Rattle.conc_show_svg.specs.Marks.{heights_text, label_text, sides_text}
use Rattle.conc_show_svg.specs.Moments.{moment_word}
use Rattle.conc_show_svg.specs.declared.bars.Band.{Band}
use Rattle.conc_show_svg.specs.declared.bars.Band.TheVariants as band
use Rattle.conc_show_svg.specs.declared.geometry.Bar.{Bar}
use Rattle.conc_show_svg.specs.declared.scene.Scene.{Scene}

-- what the elements are made of
pub record View : Type 0 where
  pub events : List Event
  pub rows : List Row
  pub places : List Place
  pub moments : List (Option Moment)

abbrev pub view_of : Scene → View
view_of s = record { events = s.events.now; rows = s.rows.now; places = s.places.items; moments = s.moments.items }

abbrev pub result_word : Outcome → List ℕ
result_word outcome.Normal = codes "normal"
result_word outcome.Warning = codes "warning"
result_word outcome.Error = codes "error"
result_word outcome.Terminated = codes "terminated"
result_word outcome.Cancelled = codes "cancelled"

abbrev pub end_word : Event → List ℕ
end_word (event.Ended r o x) = result_word o
end_word _ = codes "interrupted"

abbrev pub word_at : Option Event → List ℕ
word_at (Some e) = end_word e
word_at None = codes "running"

-- the word for how a run ends, which is the class of its bar
unfoldable pub outcome_word : List Event → Option ℕ → List ℕ
outcome_word events None = codes "running"
outcome_word events (Some index) = word_at (slice_get events index)

unfoldable pub title_end : View → Option ℕ → List ℕ
title_end v None = codes ", still running"
title_end v (Some index) = codes " to " ++ moment_word v.moments index ++ codes ": " ++ outcome_word v.events (Some index)

-- who runs, and where
unfoldable pub title_head : View → Run → List ℕ
title_head v r =
    codes "Request " ++ decimal r.request.number ++ codes " " ++ escaped (name_of v.rows r.request) ++ codes " at " ++ place_text r.place

-- who runs, where and when, and how it ends
unfoldable pub run_title : View → Run → List ℕ
run_title v r = title_head v r ++ codes ", from " ++ moment_word v.moments r.from ++ title_end v r.to

-- a bar of a run behind its class: where it stands, and its title
unfoldable pub titled_text : View → Run → Bar → ℕ → ℕ → List ℕ
titled_text v r bar top height =
    sides_text bar ++ heights_text top height ++ codes "><title>" ++ run_title v r ++ codes "</title></rect>\n"

-- the beginning of the bar of a run in a lane: a program finds the request and the place in it
unfoldable pub lane_bar_head : View → Run → List ℕ
lane_bar_head v r =
    codes "<rect class=\"bar " ++ outcome_word v.events r.to ++ codes "\" data-request=\"" ++ decimal r.request.number
    ++ codes "\" data-lane=\"" ++ place_text r.place

-- the same in the row of its request
unfoldable pub row_bar_head : View → Run → List ℕ
row_bar_head v r = codes "<rect class=\"" ++ outcome_word v.events r.to

-- the number of a request in its bar, where it has room
unfoldable pub number_text : RequestId → Bar → ℕ → List ℕ
number_text r bar y =
    if nat_lt bar.width (700 * length (decimal r.number) + 200) then []
    else label_text (codes "k") (bar.left + bar.width / 2) y ++ decimal r.number ++ codes "</text>\n"

-- the bar of a run in the lane of its place, and in the row of its request
abbrev pub bar_in_lane : View → Run → Bar
bar_in_lane v r = bar_of (length v.events) (lane_of v.places r.place) r

abbrev pub bar_in_row : View → Run → Bar
bar_in_row v r = bar_of (length v.events) (row_of v.rows r.request) r

unfoldable pub lane_bar : View → Run → List ℕ
lane_bar v r =
    let bar = bar_in_lane v r in
    lane_bar_head v r ++ titled_text v r bar (lane_top bar.lane + 3) 14 ++ number_text r.request bar (lane_top bar.lane + 14)

unfoldable pub row_bar : View → Run → List ℕ
row_bar v r =
    let bar = bar_in_row v r in
    row_bar_head v r ++ titled_text v r bar (row_top (length v.places) bar.lane + 4) 10

-- the bar of a run in a band
abbrev pub bar_text : View → Band → Run → List ℕ
bar_text v band.Lanes = lane_bar v
bar_text v band.Rows = row_bar v
