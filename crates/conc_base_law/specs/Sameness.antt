-- What is the same of two histories: the table of the requests, and the ends.
use Rattle.std.specs.Prelude.{◌≡◌, [], List, reverse, Some}
use Rattle.conc_types.specs.declared.event.Event.{Event}
use Rattle.conc_types.specs.declared.event.Event.TheVariants as event
use Rattle.conc_types.specs.declared.event.Extent.{Extent}
use Rattle.conc_types.specs.declared.event.Outcome.{Outcome}
use Rattle.conc_types.specs.declared.event.RequestId.{RequestId}
use Rattle.conc_types.specs.declared.plan.Plan.{Plan}
use Rattle.conc_types.specs.declared.script.Readings.{Readings}
use Rattle.conc_base_law.specs.Alone.{Alone}
use Rattle.conc_base_law.specs.Steady.{IsWhole, Steady}
use Rattle.conc_base_law.specs.Text.{table_text}
use Rattle.conc_base_law.specs.Words.{Has}

-- a request that ended with an extent in the one ended in the other with the same outcome, and with an extent of the same length
abbrev pub HasEnds : List Event → List Event → Type 0
HasEnds one another =
    (id : RequestId) (o : Outcome) (x : Extent) → Has one (event.Ended id o (Some x))
    → (y : Extent) × Has another (event.Ended id o (Some y)) × (y.length ≡ x.length)

-- the tables are the same, and so are the requests that ended with an extent
pub record SaySame (plan : Plan) (one another : List Event) : Type 0 where
  pub table : table_text plan (reverse one) ≡ table_text plan (reverse another)
  pub ends_of_one : HasEnds one another
  pub ends_of_another : HasEnds another one

-- ---- the laws

-- two finished lives of a steady plan, whose ends tell what the reports of their requests say
abbrev pub SteadyTablesAreSame : Type 0
SteadyTablesAreSame =
    (plan : Plan) (readings : Readings) (one another : List Event) → Steady plan readings.list
    → IsWhole plan readings.list one → IsWhole plan readings.list another → SaySame plan one another

-- such a life, and the run without workers
abbrev pub SteadyTableIsThatOfAlone : Type 0
SteadyTableIsThatOfAlone =
    (plan : Plan) (readings : Readings) (history alone : List Event) → Steady plan readings.list
    → IsWhole plan readings.list history → Alone plan readings.list [] alone → SaySame plan history alone
