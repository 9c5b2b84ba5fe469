-- The readings of a life, and how many of them are taken.
use Rattle.std.specs.Prelude.{◌≡◌, ℕ, ◌+◌, List, drop, length, min}
use Rattle.conc_types.specs.declared.event.Event.{Event}
use Rattle.conc_base_law.specs.Readings.{life_readings, ticks}
use Rattle.conc_machine.specs.declared.life.LifeReadings.{LifeReadings}

-- the life that these events end with has the readings but the first ones, and the next one is that behind
-- as many as there are ticks
pub record AreLifeReadings (life : LifeReadings) (past : List Event) : Type 0 where
  pub skipped : ℕ
  pub rest : life_readings life.readings.list past ≡ drop skipped life.readings.list
  pub next : life.next ≡ min (skipped + ticks past) (length life.readings.list)
