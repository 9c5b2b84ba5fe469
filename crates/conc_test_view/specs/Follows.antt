-- A machine that follows a list.
use Rattle.std.specs.Prelude.{◌≡◌, List, None, reverse}
use Rattle.conc_types.specs.declared.event.Event.{Event}
use Rattle.conc_base_law.specs.Law.{LawfulSoFar}
use Rattle.conc_machine.specs.StandsFor.{plan_of, readings_of, StandsFor}
use Rattle.conc_machine.specs.declared.machine.Machine.{Machine}

-- the machine, without readings, stands for these events, each of which may follow those before it
pub record Follows (machine : Machine) (events : List Event) : Type 0 where
  pub unread : readings_of machine ≡ None
  pub stands : StandsFor machine (reverse events)
  pub lawful : LawfulSoFar (plan_of machine) events
