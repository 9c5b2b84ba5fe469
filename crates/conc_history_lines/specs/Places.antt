-- The places of a plan as a table of numbers: for each manager the index of its first place, and then the count of all places.
use Rattle.std.specs.Prelude.{ℕ, ◌+◌, ◌-◌, ◌&&◌, ◌==◌, nat_le, List, [], ◌∷◌, Option, None}
use Rattle.std.specs.Bool.{then_some}
use Rattle.std.specs.List.{slice_split}
use Rattle.std.specs.Option.{option_and_then}
use Rattle.conc_types.specs.declared.event.PlaceId.{PlaceId}
use Rattle.conc_types.specs.declared.manager.Manager.{Manager}
use Rattle.conc_types.specs.declared.plan.Plan.{Plan}
use Rattle.conc_types.specs.Decimals.{decimal_value}
use Rattle.conc_types.specs.Shifts.{most_places}
use Rattle.conc_types.specs.Words.{numbered}

-- the table of these managers, where the first place of the first of them has this index
abbrev pub starts_from : ℕ → List Manager → List ℕ
starts_from first [] = first ∷ []
starts_from first (manager ∷ managers) = first ∷ starts_from (first + most_places manager.shifts) managers

unfoldable pub starts_of : Plan → List ℕ
starts_of plan = starts_from 0 plan.setup.managers

-- place n of manager m, both from 1: it stands before the first place of the next manager
unfoldable pub place_at : List ℕ → ℕ → ℕ → Option PlaceId
place_at starts m n =
    option_and_then (λ first. option_and_then (λ next.
    then_some (nat_le 1 n && nat_le (first + n) next) (record { index = first + n - 1 }))
    (numbered starts (m + 1))) (numbered starts m)

-- M.N, the manager's and the place's number
abbrev pub place_of_parts : List ℕ → List (List ℕ) → Option PlaceId
place_of_parts starts (m ∷ n ∷ []) = option_and_then (λ owner. option_and_then (place_at starts owner) (decimal_value n)) (decimal_value m)
place_of_parts starts _ = None

unfoldable pub place_of : List ℕ → List ℕ → Option PlaceId
place_of starts word = place_of_parts starts (slice_split (λ byte. byte == 46) word)
