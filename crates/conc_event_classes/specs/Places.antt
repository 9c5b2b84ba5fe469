-- Where the elements stand that pass a test.
use Rattle.std.specs.Prelude.{ℕ, ◌+◌, Bool, if◌then◌else◌, List, [], ◌∷◌}

-- the indexes of those that pass, where the list begins at index n
unfoldable pub places_from : {T : Type 0} → (T → Bool) → ℕ → List T → List ℕ
places_from test n [] = []
places_from test n (x ∷ xs) = if test x then n ∷ places_from test (n + 1) xs else places_from test (n + 1) xs
