-- What comes next in a run without workers, and the text that is to be kept before it.
use Rattle.std.specs.Prelude.{◌≡◌, ℕ, Bool, List, Option, None, Some, ⊤, if◌then◌else◌}
use Rattle.std.specs.Option.{ForSome, option_and_then, option_map, option_or}
use Rattle.conc_types.specs.declared.event.Event.{Event}
use Rattle.conc_types.specs.declared.event.Event.TheVariants as event
use Rattle.conc_types.specs.declared.event.Outcome.TheVariants as outcome
use Rattle.conc_types.specs.declared.facts.State.{State}
use Rattle.conc_types.specs.declared.plan.Plan.{Plan}
use Rattle.conc_types.specs.declared.plan.Req.{Req}
use Rattle.conc_types.specs.declared.script.Reading.{Reading}
use Rattle.conc_base_law.specs.Alone.{end_with, first_start, next_tick, report_of}
use Rattle.conc_base_law.specs.Ends.{IsReported}
use Rattle.conc_base_law.specs.Readings.{next_reading}
use Rattle.conc_base_law.specs.State.{state}
use Rattle.conc_machine.specs.StandsFor.{plan_of, readings_of, StandsFor}
use Rattle.conc_machine.specs.declared.machine.Machine.{Machine}
use Rattle.conc_run_choice.specs.declared.choosing.Next.{Next}

-- An end with an extent is that of its request's report, and this is the report's text. No other event has a text.
abbrev pub HasItsText : Plan → Event → Option (List ℕ) → Type 0
HasItsText plan (event.Ended id o (Some x)) text = (stored : IsReported plan id o x) × (text ≡ Some stored.made.text)
HasItsText plan e text = text ≡ None

abbrev pub event_of : Next → Event
event_of next = next.event

-- the event is an end with a report
abbrev pub IsEndWithReport : Event → Type 0
IsEndWithReport (event.Ended id o (Some x)) = ⊤
IsEndWithReport e = ⊥

-- the end of a running request, whether or not it must stop, when the extents take up this many bytes
abbrev pub end_by : Plan → Req → Bool → Option ℕ → Option Event
end_by plan r stopping used =
    if stopping
    then Some (event.Ended r.number outcome.Terminated None)
    else option_and_then (λ made. option_map (end_with r made) used) (report_of plan r)

-- the first start, and else the next tick
abbrev pub start_or_tick : Plan → State → Option Reading → Option Event
start_or_tick plan s next = option_or (first_start plan s) (next_tick plan s next)

-- the event is chosen so by the plan, the state and the next reading, for each list of events that the machine stands for
abbrev pub IsChosenBy : (Plan → State → Option Reading → Option Event) → Machine → Option Event → Type 0
IsChosenBy chosen machine e =
    (readings : List Reading) (past : List Event) → readings_of machine ≡ Some readings → StandsFor machine past
    → e ≡ chosen (plan_of machine) (state (plan_of machine) past) (next_reading readings past)

-- what comes next has its text, for each list of events that the machine stands for
abbrev pub KeepsItsText : Machine → Option Next → Type 0
KeepsItsText machine next =
    (past : List Event) → StandsFor machine past → ForSome next (λ n. HasItsText (plan_of machine) n.event n.text)

-- the event has no text
abbrev pub HasNoText : Machine → Option Event → Type 0
HasNoText machine e = ForSome e (λ e. HasItsText (plan_of machine) e None)
