-- The manager of each place, by its place in the setup.
use Rattle.std.specs.Prelude.{◌≡◌, ℕ, ◌<◌, List, Option, slice_get}
use Rattle.std.specs.Option.{option_and_then, option_map}
use Rattle.conc_types.specs.declared.event.PlaceId.{PlaceId}
use Rattle.conc_types.specs.declared.manager.Manager.{Manager}
use Rattle.conc_types.specs.declared.plan.Plan.{Plan}
use Rattle.conc_base_law.specs.Places.{place_of}

-- the manager that has the place
abbrev pub manager_at : Plan → PlaceId → Option Manager
manager_at plan place = option_map (λ p. p.manager) (place_of plan place)

-- of the places below this number each has its manager where the list says
abbrev pub AreOwners : Plan → ℕ → List ℕ → Type 0
AreOwners plan count owners =
    (place : PlaceId) → place.index < count
    → option_and_then (slice_get plan.setup.managers) (slice_get owners place.index) ≡ manager_at plan place
