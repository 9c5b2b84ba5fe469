-- What the resolver can log without any worker.
use Rattle.std.specs.Prelude.{◌≡◌, ◌⊎◌, ◌∷◌, ◌++◌, [], List, Option, None, Some, reverse, IsFalse}
use Rattle.conc_types.specs.declared.event.Event.{Event}
use Rattle.conc_types.specs.declared.event.Event.TheVariants as event
use Rattle.conc_types.specs.declared.plan.Plan.{Plan}
use Rattle.conc_types.specs.declared.script.Reading.{Reading}
use Rattle.conc_base_law.specs.Kinds.{is_resume}
use Rattle.conc_base_law.specs.Law.{Lawful}
use Rattle.conc_base_law.specs.Next.{forced}
use Rattle.conc_base_law.specs.Readings.{next_reading}
use Rattle.conc_base_law.specs.State.{state}
use Rattle.conc_run_desk.specs.Logging.{IsItsTurn}

-- the tick of the next reading
pub record IsNextTick (readings : List Reading) (past : List Event) (e : Event) : Type 0 where
  pub reading : Reading
  pub next : next_reading readings past ≡ Some reading
  pub tick : e ≡ event.Tick reading.moment

-- no worker has to do anything for the end that is kept; nor, where none is, for the event that is forced and the tick of the next reading
abbrev pub NeedsNoWorker : Plan → List Reading → List Event → Option Event → Event → Type 0
NeedsNoWorker plan readings past (Some kept) e = e ≡ kept
NeedsNoWorker plan readings past None e = (forced plan (state plan past) ≡ Some e) ⊎ IsNextTick readings past e

-- such an event may come next
pub record CanLog (plan : Plan) (readings : List Reading) (list : List Event) (kept : Option Event) : Type 0 where
  pub event : Event
  pub needs_none : NeedsNoWorker plan readings (reverse list) kept event
  pub turn : IsItsTurn kept event
  pub no_resume : IsFalse (is_resume event)
  pub lawful : Lawful plan readings (list ++ event ∷ [])
