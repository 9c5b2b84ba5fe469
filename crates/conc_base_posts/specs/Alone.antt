-- The history that a run without workers makes, where programs post.
use Rattle.std.specs.Prelude.{◌≡◌, ℕ, ◌<◌, ◌≤◌, List, ◌++◌, length, take, reverse, Option, None, Some, slice_get, if◌then◌else◌}
use Rattle.std.specs.List.{find}
use Rattle.std.specs.Option.{option_and_then, option_map, option_or}
use Rattle.conc_types.specs.declared.event.Event.{Event}
use Rattle.conc_types.specs.declared.event.Event.TheVariants as event
use Rattle.conc_types.specs.declared.event.Outcome.TheVariants as outcome
use Rattle.conc_types.specs.declared.facts.State.{State}
use Rattle.conc_types.specs.declared.plan.Plan.{Plan}
use Rattle.conc_types.specs.declared.plan.Req.{Req}
use Rattle.conc_types.specs.declared.script.Reading.{Reading}
use Rattle.conc_base_law.specs.Alone.{end_with, first_start, next_tick, opening}
use Rattle.conc_base_law.specs.Law.{Finished}
use Rattle.conc_base_law.specs.Next.{forced, runs_somewhere}
use Rattle.conc_base_law.specs.Readings.{next_reading}
use Rattle.conc_base_law.specs.State.{facts_at, is_stopping, state}
use Rattle.conc_base_posts.specs.Positions.{last_report}

-- the end of a request that runs: that of its report at its last start, whose text stands at the end of the spool
abbrev pub end_of : Plan → List Event → State → Req → Option Event
end_of plan past s r =
    if is_stopping (facts_at s r)
    then Some (event.Ended r.number outcome.Terminated None)
    else option_and_then (λ made. option_map (end_with r made.report) s.used) (last_report plan past r.number)

-- the end of the request that runs
unfoldable pub first_end : Plan → List Event → State → Option Event
first_end plan past s = option_and_then (end_of plan past s) (find (runs_somewhere s) plan.requests)

-- the one event that comes next: the forced one, else an end, else a start, else a tick
unfoldable pub choice : Plan → List Event → State → Option Reading → Option Event
choice plan past s next =
    option_or (forced plan s)
    (option_or (first_end plan past s)
    (option_or (first_start plan s)
    (next_tick plan s next)))

unfoldable pub next_alone : Plan → List Reading → List Event → Option Event
next_alone plan readings past = choice plan past (state plan past) (next_reading readings past)

-- from this position on each event is the one that comes next
abbrev pub Follows : Plan → List Reading → ℕ → List Event → Type 0
Follows plan readings n history =
    (i : ℕ) → n ≤ i → i < length history → slice_get history i ≡ next_alone plan readings (reverse (take i history))

-- the history goes on from the events found by the one event that comes next, until it is finished
pub record Alone (plan : Plan) (readings : List Reading) (found history : List Event) : Type 0 where
  pub begins : (rest : List Event) × (history ≡ opening found ++ rest)
  pub each : Follows plan readings (length (opening found)) history
  pub finished : Finished plan readings history
