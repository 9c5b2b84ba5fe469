-- Lists of places.
use Rattle.std.specs.Prelude.{ℕ, zero, suc, ◌==◌, ◌||◌, Bool, false, List, [], ◌∷◌, if◌then◌else◌, IsTrue}
use Rattle.conc_types.specs.declared.event.PlaceId.{PlaceId}

-- the place is one of these
abbrev pub has : List PlaceId → PlaceId → Bool
has [] p = false
has (q ∷ qs) p = (q.index == p.index) || has qs p

-- these places are among those
abbrev pub AreAmong : List PlaceId → List PlaceId → Type 0
AreAmong ps qs = (p : PlaceId) → IsTrue (has ps p) → IsTrue (has qs p)

-- the places but those
abbrev pub without : List PlaceId → List PlaceId → List PlaceId
without [] ps = []
without (q ∷ qs) ps = if has ps q then without qs ps else q ∷ without qs ps

-- the places whose indexes are below this
abbrev pub below : ℕ → List PlaceId
below zero = []
below (suc n) = record { index = n } ∷ below n
