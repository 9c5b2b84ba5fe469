-- What is kept of the requests that may start, and of the places.
use Rattle.std.specs.Prelude.{◌≡◌, ℕ, ◌-◌, Bool, not, ◌&&◌, length, map}
use Rattle.std.specs.List.{filter}
use Rattle.std.specs.Option.{option_map_or}
use Rattle.conc_types.specs.declared.event.PlaceId.{PlaceId}
use Rattle.conc_types.specs.declared.facts.State.{State}
use Rattle.conc_types.specs.declared.manager.Manager.{Manager}
use Rattle.conc_types.specs.declared.plan.Plan.{Plan}
use Rattle.conc_types.specs.declared.plan.Req.{Req}
use Rattle.conc_types.specs.Words.{some_and}
use Rattle.conc_base_law.specs.Managers.{admits}
use Rattle.conc_base_law.specs.Next.{runs_at}
use Rattle.conc_base_law.specs.Places.{all_places, is_usable, place_of}
use Rattle.conc_base_law.specs.State.{facts_at, is_running}
use Rattle.conc_event_queue.specs.Turns.{turns_of}
use Rattle.conc_machine_starts.specs.declared.starts.Starts.{Starts}

-- r is let and does not run, and the manager admits it
unfoldable pub may_start_under : State → Manager → Req → Bool
may_start_under s manager r = (facts_at s r).let_out && (not (is_running (facts_at s r)) && admits manager r)

-- the manager that has a place, from 0
unfoldable pub owner_of : Plan → PlaceId → ℕ
owner_of plan place = option_map_or (λ p. p.owner - 1) (place_of plan place) 0

-- how many requests run at a place
unfoldable pub running_at : Plan → State → PlaceId → ℕ
running_at plan s place = length (filter (runs_at s place) plan.requests)

-- the place may be used at the last tick
unfoldable pub is_usable_now : Plan → State → PlaceId → Bool
is_usable_now plan s place = some_and (λ t. is_usable plan t place) s.time

-- what is kept is what the state says: for each manager the turns of the requests that may start under it, and
-- for each place its manager, how many requests run there, and whether it may be used
pub record AreStarts (plan : Plan) (s : State) (starts : Starts) : Type 0 where
  pub queues : starts.queues.items ≡ map (λ manager. turns_of (may_start_under s manager) plan.requests) plan.setup.managers
  pub owners : starts.owners ≡ map (owner_of plan) (all_places plan)
  pub running : starts.running ≡ map (running_at plan s) (all_places plan)
  pub usable : starts.usable ≡ map (is_usable_now plan s) (all_places plan)
