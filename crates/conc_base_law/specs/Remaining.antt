-- A bound on the events that a life still has.
use Rattle.std.specs.Prelude.{ℕ, ◌+◌, ◌-◌, ◌*◌, not, if◌then◌else◌, List, length, unwrap_or}
use Rattle.std.specs.List.{enumerate_from, filter, sum_by}
use Rattle.conc_types.specs.declared.event.Event.{Event}
use Rattle.conc_types.specs.declared.facts.Facts.{Facts}
use Rattle.conc_types.specs.declared.plan.Plan.{Plan}
use Rattle.conc_types.specs.declared.plan.Req.{Req}
use Rattle.conc_types.specs.declared.script.Reading.{Reading}
use Rattle.conc_base_law.specs.Facts.{facts_of}
use Rattle.conc_base_law.specs.Readings.{life_readings, ticks}
use Rattle.conc_base_law.specs.State.{is_completed, is_done, is_running}
use Rattle.conc_base_law.specs.Words.{is_set}

-- how many events of its own a request still has at most. A set has at most 64 stages
unfoldable pub events_left : Req → Facts → ℕ
events_left r facts =
    if is_completed facts then 0
    else (if is_running facts then (if facts.started then 1 else 4)
    else (if facts.let_out then 2
    else (if not (is_set r.item) then 3
    else (if facts.opened then 1 + (65 - unwrap_or facts.stage 0)
    else 67))))

-- the commands that are not done
unfoldable pub commands_left : Plan → List Event → ℕ
commands_left plan past = length (filter (λ order. not (is_done past order)) (enumerate_from 1 plan.script.commands))

-- a command may take its let from a request, so it counts for one event of each request beside its own
unfoldable pub remaining : Plan → List Reading → List Event → ℕ
remaining plan readings past =
    sum_by (λ r. events_left r (facts_of plan past r)) plan.requests
    + commands_left plan past * (1 + length plan.requests)
    + (length (life_readings readings past) - ticks past)
