-- Where events and bars stand, in hundredths of a unit.
use Rattle.std.specs.Prelude.{ℕ, ◌+◌, ◌-◌, ◌*◌, ◌/◌, min, max, if◌then◌else◌, List, [], ◌∷◌, Option, None, Some}
use Rattle.conc_show_model.specs.declared.model.Place.{Place}
use Rattle.conc_show_model.specs.declared.model.Run.{Run}
use Rattle.conc_show_model.specs.Places.{place_eq}
use Rattle.conc_show_svg.specs.declared.geometry.Bar.{Bar}

-- where the event with this index begins, of so many events
unfoldable pub x_of : ℕ → ℕ → ℕ
x_of count index = 26000 + 78000 * min index count / max count 1

-- where a span ends that an event ends, if one does
abbrev pub end_of : ℕ → Option ℕ → ℕ
end_of count None = 104000
end_of count (Some index) = x_of count index

-- the bar of a run in a lane
abbrev pub bar_of : ℕ → ℕ → Run → Bar
bar_of count lane run = record { lane = lane; left = x_of count run.from; width = end_of count run.to - x_of count run.from }

-- the index of the first of these places that is this one, or how many they are
abbrev pub lane_of : List Place → Place → ℕ
lane_of [] place = 0
lane_of (p ∷ later) place = if place_eq p place then 0 else lane_of later place + 1

-- where a lane begins, from the top, where a row begins below so many lanes, and where the picture ends below so many rows
abbrev pub lane_top : ℕ → ℕ
lane_top index = 116 + 20 * index

abbrev pub row_top : ℕ → ℕ → ℕ
row_top lanes index = 148 + 20 * lanes + 18 * index
