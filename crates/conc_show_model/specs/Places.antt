-- Places in order of manager and number.
use Rattle.std.specs.Prelude.{◌≡◌, Bool, ◌&&◌, ◌||◌, ◌==◌, nat_lt, if◌then◌else◌, List, [], ◌∷◌, Any}
use Rattle.conc_show_model.specs.declared.model.Place.{Place}
use Rattle.conc_show_model.specs.declared.model.Run.{Run}

abbrev pub precedes : Place → Place → Bool
precedes a b = nat_lt a.manager b.manager || (a.manager == b.manager && nat_lt a.number b.number)

abbrev pub place_eq : Place → Place → Bool
place_eq a b = a.manager == b.manager && a.number == b.number

-- the places, with this one where it stands in their order
abbrev pub with_place : Place → List Place → List Place
with_place p [] = p ∷ []
with_place p (q ∷ later) = if precedes p q then p ∷ q ∷ later else if place_eq p q then q ∷ later else q ∷ with_place p later

-- the places, with those of the runs
abbrev pub with_places : List Run → List Place → List Place
with_places [] places = places
with_places (r ∷ later) places = with_places later (with_place r.place places)

-- the places of the runs
abbrev pub places_of : List Run → List Place
places_of runs = with_places runs []

-- one of the runs is at this place
abbrev pub RunsAt : List Run → Place → Type 0
RunsAt runs p = Any (λ r. r.place ≡ p) runs
