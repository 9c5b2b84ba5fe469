-- Classes in buckets, by a key.
use Rattle.std.specs.Prelude.{◌≡◌, ℕ, ◌%◌, ◌==◌, if◌then◌else◌, List, [], ◌∷◌, ◌++◌, length, slice_get}
use Rattle.std.specs.Option.{option_map_or}
use Rattle.conc_event_classes.specs.declared.shelf.Shelf.{Shelf}

-- each bucket is there
abbrev pub IsShelf : Shelf → Type 0
IsShelf shelf = length shelf.buckets.items ≡ 1021

-- the bucket of a key
unfoldable pub bucket : Shelf → ℕ → List ℕ
bucket shelf key = option_map_or (λ it. it.items) (slice_get shelf.buckets.items (key % 1021)) []

-- the class stands last in the bucket of the key, and the other buckets stay
pub record IsPut (old new : Shelf) (key class : ℕ) : Type 0 where
  pub shelf : IsShelf new
  pub buckets : (k : ℕ) → bucket new k ≡ (if k % 1021 == key % 1021 then bucket old k ++ class ∷ [] else bucket old k)
