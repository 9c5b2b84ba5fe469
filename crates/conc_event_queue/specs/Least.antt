-- The least of some keys, where a slot may have none.
use Rattle.std.specs.Prelude.{ℕ, zero, suc, nat_lt, if◌then◌else◌, List, [], ◌∷◌, Option, None, Some}

-- the lesser of two keys, where both are there
abbrev pub lesser : Option ℕ → Option ℕ → Option ℕ
lesser None y = y
lesser (Some a) None = Some a
lesser (Some a) (Some b) = Some (if nat_lt b a then b else a)

-- the least key, if there is one
unfoldable pub least : List (Option ℕ) → Option ℕ
least [] = None
least (x ∷ xs) = lesser x (least xs)

-- so many slots without a key
unfoldable pub vacant : ℕ → List (Option ℕ)
vacant zero = []
vacant (suc n) = None ∷ vacant n
