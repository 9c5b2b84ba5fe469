-- The readings of the last life.
use Rattle.std.specs.Prelude.{ℕ, List, length, Option, slice_get}
use Rattle.std.specs.List.{filter, filter_map}
use Rattle.conc_types.specs.declared.event.Event.{Event}
use Rattle.conc_types.specs.declared.script.Reading.{Reading}
use Rattle.conc_base_law.specs.Kinds.{tick_of}
use Rattle.conc_base_law.specs.Before.{earlier_lives, last_life}
use Rattle.conc_base_law.specs.State.{is_not_earlier, now}

-- the readings of the last life: those not earlier than the last tick of the lives before
unfoldable pub life_readings : List Reading → List Event → List Reading
life_readings readings past = filter (λ q. is_not_earlier (now (earlier_lives past)) q.moment) readings

-- how many of them are taken
unfoldable pub ticks : List Event → ℕ
ticks past = length (filter_map tick_of (last_life past))

-- the next one
unfoldable pub next_reading : List Reading → List Event → Option Reading
next_reading readings past = slice_get (life_readings readings past) (ticks past)
