-- The lists of events that a machine stands for.
use Rattle.std.specs.Prelude.{◌≡◌, List, Option, Some}
use Rattle.std.specs.Option.{option_map}
use Rattle.conc_types.specs.declared.event.Event.{Event}
use Rattle.conc_types.specs.declared.plan.Plan.{Plan}
use Rattle.conc_types.specs.declared.script.Reading.{Reading}
use Rattle.conc_base_law.specs.State.{state}
use Rattle.conc_machine.specs.LifeReadings.{AreLifeReadings}
use Rattle.conc_machine.specs.declared.life.LifeReadings.{LifeReadings}
use Rattle.conc_machine.specs.declared.machine.Machine.{Machine}

-- the plan of a machine
abbrev pub plan_of : Machine → Plan
plan_of machine = machine.plan.now

-- the readings that it took, if it took any. Without them each life is judged as an earlier one
unfoldable pub readings_of : Machine → Option (List Reading)
readings_of machine = option_map (λ life. life.readings.list) machine.life

-- the readings of the life, where they are known, are those of the list's last life
abbrev pub FitLife : Option LifeReadings → List Event → Type 0
FitLife known past = (life : LifeReadings) → known ≡ Some life → AreLifeReadings life past

-- the machine stands for the list, which is given with the latest event first: what it keeps is the state
-- after the list
pub record StandsFor (machine : Machine) (past : List Event) : Type 0 where
  pub state : machine.indexes.state ≡ state machine.plan.now past
  pub life : FitLife machine.life past
