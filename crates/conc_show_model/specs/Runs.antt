-- The runs of a history.
use Rattle.std.specs.Prelude.{◌≡◌, ℕ, ◌+◌, ◌/◌, ◌%◌, ◌<◌, ◌⊎◌, List, [], ◌∷◌, AllPairs, IsSomeAnd, Option, None, Some, if◌then◌else◌}
use Rattle.conc_types.specs.declared.event.Event.{Event}
use Rattle.conc_types.specs.declared.event.Event.TheVariants as event
use Rattle.conc_types.specs.declared.event.PlaceId.{PlaceId}
use Rattle.conc_types.specs.declared.event.RequestId.{RequestId}
use Rattle.conc_base_law.specs.Kinds.{ends_run}
use Rattle.conc_show_model.specs.declared.model.Place.{Place}
use Rattle.conc_show_model.specs.declared.model.Run.{Run}

-- how many places a manager has at most
abbrev pub most_of_manager : ℕ
most_of_manager = 64

-- a place that was read by the table 0, 64, 128 .. of first places
abbrev pub place_of : PlaceId → Place
place_of p = record { manager = p.index / most_of_manager + 1; number = p.index % most_of_manager + 1 }

-- the index of the first of these events that ends a run of the request, where the first of them has index i
unfoldable pub first_end : RequestId → ℕ → List Event → Option ℕ
first_end r i [] = None
first_end r i (e ∷ later) = if ends_run r e then Some i else first_end r (i + 1) later

-- the runs that these events start, where the first of them has index i
unfoldable pub runs_from : ℕ → List Event → List Run
runs_from i [] = []
runs_from i (event.Started r p ∷ later) = record { request = r; place = place_of p; from = i; to = first_end r (i + 1) later } ∷ runs_from (i + 1) later
runs_from i (e ∷ later) = runs_from (i + 1) later

abbrev pub runs_of : List Event → List Run
runs_of events = runs_from 0 events

-- of two runs of one request, or at one place, the earlier one ends before the later one starts
abbrev pub AreApart : List Run → Type 0
AreApart runs =
    AllPairs (λ (a b : Run). (a.request ≡ b.request) ⊎ (a.place ≡ b.place) → IsSomeAnd a.to (λ end. end < b.from)) runs
