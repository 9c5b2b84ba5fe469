-- Byte strings that lie one after the other in one buffer, with the place where each ends.
use Rattle.std.specs.Prelude.{◌≡◌, ◌≤◌, ℕ, zero, suc, ◌-◌, List, [], ◌∷◌, take, drop}

-- the strings that end at these places, after a start
unfoldable pub cut : ℕ → List ℕ → List ℕ → List (List ℕ)
cut start [] bytes = []
cut start (end ∷ ends) bytes = take (end - start) (drop start bytes) ∷ cut end ends bytes

-- the places rise from a start, and the last of them is the size
unfoldable pub AreEnds : ℕ → List ℕ → ℕ → Type 0
AreEnds start [] size = start ≡ size
AreEnds start (end ∷ ends) size = (start ≤ end) × AreEnds end ends size

-- the place where the string at an index starts
unfoldable pub start_of : ℕ → List ℕ → ℕ → ℕ
start_of start [] index = start
start_of start (end ∷ ends) zero = start
start_of start (end ∷ ends) (suc index) = start_of end ends index
