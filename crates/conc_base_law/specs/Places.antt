-- The places of a plan, counted through all managers in order.
use Rattle.std.specs.Prelude.{ℕ, Bool, ◌+◌, ◌-◌, nat_le, nat_lt, if◌then◌else◌, List, [], ◌∷◌, map, Option, None, Some}
use Rattle.std.specs.List.{sum_by, range_with_len}
use Rattle.conc_types.specs.declared.event.Moment.{Moment}
use Rattle.conc_types.specs.declared.event.PlaceId.{PlaceId}
use Rattle.conc_types.specs.declared.plan.Plan.{Plan}
use Rattle.conc_types.specs.declared.manager.Manager.{Manager}
use Rattle.conc_types.specs.Shifts.{most_places}
use Rattle.conc_types.specs.Words.{some_and}
use Rattle.conc_base_law.specs.Managers.{places}

-- a place: the number of the manager that has it, from 1, this manager, and the place's number within it, from 1
pub record Place : Type 0 where
  pub owner : ℕ
  pub manager : Manager
  pub number : ℕ

-- the place with this index among those of the managers, the first of which has this number
abbrev pub place_from : ℕ → List Manager → ℕ → Option Place
place_from owner [] index = None
place_from owner (manager ∷ managers) index =
    if nat_lt index (most_places manager.shifts)
    then Some (record { owner = owner; manager = manager; number = index + 1 })
    else place_from (owner + 1) managers (index - most_places manager.shifts)

unfoldable pub place_of : Plan → PlaceId → Option Place
place_of plan place = place_from 1 plan.setup.managers place.index

-- the place may be used at the moment
unfoldable pub is_usable : Plan → Moment → PlaceId → Bool
is_usable plan t place = some_and (λ p. nat_le p.number (places p.manager t)) (place_of plan place)

-- how many places there are
unfoldable pub count_of_places : Plan → ℕ
count_of_places plan = sum_by (λ m. most_places m.shifts) plan.setup.managers

-- all places
unfoldable pub all_places : Plan → List PlaceId
all_places plan = map (λ index. record { index = index }) (range_with_len 0 (count_of_places plan))
