-- How many live requests are of classes that exclude each class.
use Rattle.std.specs.Prelude.{ℕ, ◌+◌, ◌-◌, Bool, true, false, min, List, [], ◌∷◌, slice_index, slice_set}

-- one more, or one less, as 32 bits count
abbrev pub counted : Bool → ℕ → ℕ
counted true n = min (n + 1) 4294967295
counted false n = n - 1

-- so for one class
abbrev pub counted_at : Bool → List ℕ → ℕ → List ℕ
counted_at more counts class = slice_set counts class (counted more (slice_index counts class))

-- for each of these classes
unfoldable pub counted_all : Bool → List ℕ → List ℕ → List ℕ
counted_all more [] counts = counts
counted_all more (x ∷ xs) counts = counted_all more xs (counted_at more counts x)
