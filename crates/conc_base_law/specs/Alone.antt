-- The history that a run without workers makes: each free choice is fixed.
use Rattle.std.specs.Prelude.{◌≡◌, ℕ, ◌<◌, ◌≤◌, List, [], ◌∷◌, ◌++◌, length, take, reverse, Option, None, Some, slice_get, if◌then◌else◌}
use Rattle.std.specs.Bool.{then_some}
use Rattle.std.specs.List.{find}
use Rattle.std.specs.Option.{option_and_then, option_map, option_or}
use Rattle.conc_types.specs.declared.event.Event.{Event}
use Rattle.conc_types.specs.declared.event.Event.TheVariants as event
use Rattle.conc_types.specs.declared.event.Outcome.TheVariants as outcome
use Rattle.conc_types.specs.declared.facts.State.{State}
use Rattle.conc_types.specs.declared.plan.Plan.{Plan}
use Rattle.conc_types.specs.declared.plan.Req.{Req}
use Rattle.conc_types.specs.declared.script.Reading.{Reading}
use Rattle.conc_types.specs.declared.script.Readings.{Readings}
use Rattle.conc_types.specs.Tables.{table_named}
use Rattle.conc_base_law.specs.Law.{Finished, LawfulSoFar}
use Rattle.conc_base_law.specs.Next.{forced, may_start, may_start_somewhere, may_take, runs_somewhere}
use Rattle.conc_base_law.specs.Places.{all_places}
use Rattle.conc_base_law.specs.Plans.{precedes, program_of}
use Rattle.conc_base_law.specs.Readings.{next_reading}
use Rattle.conc_base_law.specs.Report.{Report, report}
use Rattle.conc_base_law.specs.State.{facts_at, is_stopping, state}
use Rattle.conc_base_law.specs.Words.{first_by}

-- the report of a request of a program
unfoldable pub report_of : Plan → Req → Option Report
report_of plan r =
    option_and_then
    (λ program. option_map (report program.job r.argument) (table_named plan.setup plan.tables program.job.table))
    (program_of plan r)

-- the end of a request with this report, whose text stands at the end of the spool
abbrev pub end_with : Req → Report → ℕ → Event
end_with r made offset = event.Ended r.number made.outcome (Some (record { offset = offset; length = length made.text }))

abbrev pub end_of : Plan → State → Req → Option Event
end_of plan s r =
    if is_stopping (facts_at s r)
    then Some (event.Ended r.number outcome.Terminated None)
    else option_and_then (λ made. option_map (end_with r made) s.used) (report_of plan r)

-- the end of the request that runs
unfoldable pub first_end : Plan → State → Option Event
first_end plan s = option_and_then (end_of plan s) (find (runs_somewhere s) plan.requests)

-- the start of the first let request in precedence that has an allowed place, at the first such place
abbrev pub start_of : Plan → State → Req → Option Event
start_of plan s r = option_map (λ place. event.Started r.number place) (find (may_start plan s r) (all_places plan))

unfoldable pub first_start : Plan → State → Option Event
first_start plan s =
    option_and_then (start_of plan s) (first_by precedes (may_start_somewhere plan s) plan.requests)

-- the tick of the next reading, where it may be taken
unfoldable pub next_tick : Plan → State → Option Reading → Option Event
next_tick plan s next = option_and_then (λ q. then_some (may_take plan s q) (event.Tick q.moment)) next

-- the one event that comes next: the forced one, else an end, else a start, else a tick
unfoldable pub choice : Plan → State → Option Reading → Option Event
choice plan s next =
    option_or (forced plan s)
    (option_or (first_end plan s)
    (option_or (first_start plan s)
    (next_tick plan s next)))

unfoldable pub next_alone : Plan → List Reading → List Event → Option Event
next_alone plan readings past = choice plan (state plan past) (next_reading readings past)

-- a life begins with the events found, and a resume after them if there are any
abbrev pub opening : List Event → List Event
opening [] = []
opening (e ∷ es) = (e ∷ es) ++ event.Resume ∷ []

-- from this position on each event is the one that comes next
abbrev pub Follows : Plan → List Reading → ℕ → List Event → Type 0
Follows plan readings n history =
    (i : ℕ) → n ≤ i → i < length history → slice_get history i ≡ next_alone plan readings (reverse (take i history))

-- the history goes on from the events found by the one event that comes next, until it is finished
pub record Alone (plan : Plan) (readings : List Reading) (found history : List Event) : Type 0 where
  pub begins : (rest : List Event) × (history ≡ opening found ++ rest)
  pub each : Follows plan readings (length (opening found)) history
  pub finished : Finished plan readings history

-- ---- the law

-- from each history that is lawful so far there is one that a run without workers makes
abbrev pub ARunWithoutWorkersExists : Type 0
ARunWithoutWorkersExists =
    (plan : Plan) (readings : Readings) (found : List Event) → LawfulSoFar plan found
    → (history : List Event) × Alone plan readings.list found history
