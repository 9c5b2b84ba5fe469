-- What is read from the lists that are kept, and what one write does to them.
use Rattle.std.specs.Prelude.{ℕ, ◌+◌, ◌-◌, ◌==◌, min, Bool, false, not, ◌&&◌, List, Option, None, Some, slice_get, slice_index, slice_set, unwrap_or}
use Rattle.std.specs.Bool.{then_some}
use Rattle.std.specs.Option.{option_and_then}
use Rattle.conc_types.specs.declared.event.PlaceId.{PlaceId}
use Rattle.conc_types.specs.declared.facts.Facts.{Facts}
use Rattle.conc_types.specs.declared.manager.Manager.{Manager}
use Rattle.conc_types.specs.declared.plan.Plan.{Plan}
use Rattle.conc_types.specs.declared.plan.Req.{Req}
use Rattle.conc_types.specs.Words.{some_and}
use Rattle.conc_base_law.specs.Managers.{admits}
use Rattle.conc_base_law.specs.State.{is_running}
use Rattle.conc_event_queue.specs.Turns.{turn}
use Rattle.conc_machine_starts.specs.declared.starts.Starts.{Starts}

-- the key of r in the queue of a manager, by the facts of r
unfoldable pub key_of : Facts → Manager → Req → Option ℕ
key_of facts manager r = then_some (facts.let_out && (not (is_running facts) && admits manager r)) (turn r)

-- one request less runs at the place
abbrev pub without_one : List ℕ → Option PlaceId → List ℕ
without_one running None = running
without_one running (Some place) = slice_set running place.index (slice_index running place.index - 1)

-- one request more runs at the place, as far as 32 bits count
abbrev pub with_one : List ℕ → Option PlaceId → List ℕ
with_one running None = running
with_one running (Some place) = slice_set running place.index (min (slice_index running place.index + 1) 4294967295)

-- the place may be used, and none runs there
unfoldable pub is_open : Starts → PlaceId → Bool
is_open starts place =
    unwrap_or (slice_get starts.usable place.index) false
    && some_and (λ n. n == 0) (slice_get starts.running place.index)

-- the manager that has the place
unfoldable pub manager_at : Plan → Starts → PlaceId → Option Manager
manager_at plan starts place = option_and_then (slice_get plan.setup.managers) (slice_get starts.owners place.index)

-- the queue of this manager
unfoldable pub queue_at : Starts → PlaceId → Option (List (Option ℕ))
queue_at starts place = option_and_then (slice_get starts.queues.items) (slice_get starts.owners place.index)
