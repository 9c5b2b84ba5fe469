-- What a run puts into the lanes.
use Rattle.std.specs.Prelude.{ℕ, Bool, not, ◌&&◌, List, ◌++◌, drop, map, reverse, take, Option, None, Some}
use Rattle.std.specs.List.{filter, filter_map}
use Rattle.conc_types.specs.declared.event.Event.{Event}
use Rattle.conc_types.specs.declared.event.Event.TheVariants as event
use Rattle.conc_types.specs.declared.event.RequestId.{RequestId}
use Rattle.conc_types.specs.declared.plan.Plan.{Plan}
use Rattle.conc_types.specs.declared.plan.Req.{Req}
use Rattle.conc_types.specs.Plans.{request}
use Rattle.conc_types.specs.Words.{some_and}
use Rattle.conc_base_law.specs.Facts.{facts_of}
use Rattle.conc_base_law.specs.Managers.{admits}
use Rattle.conc_base_law.specs.State.{is_running}

-- it is let after these events, which are given with the latest first, and does not run
abbrev pub waits_to_start : Plan → List Event → Req → Bool
waits_to_start plan past r = (facts_of plan past r).let_out && not (is_running (facts_of plan past r))

-- the requests that are so, by number
unfoldable pub waiting_to_start : Plan → List Event → List RequestId
waiting_to_start plan past = map (λ r. r.number) (filter (waits_to_start plan past) plan.requests)

-- the request that the event lets out
abbrev pub let_by : Event → Option RequestId
let_by (event.LetOut r) = Some r
let_by _ = None

-- the requests that these events let out, in order
unfoldable pub lets_of : List Event → List RequestId
lets_of events = filter_map let_by events

-- What a run puts that began with so many events of the list: the requests that were let and did not run when it began, by
-- number, and then each that an event let out since.
unfoldable pub puts : Plan → ℕ → List Event → List RequestId
puts plan begun list = waiting_to_start plan (reverse (take begun list)) ++ lets_of (drop begun list)

-- those of the requests that each manager admits, in order
unfoldable pub lists_for : Plan → List RequestId → List (List RequestId)
lists_for plan requests =
    map (λ manager. filter (λ r. some_and (admits manager) (request plan r)) requests) plan.setup.managers
