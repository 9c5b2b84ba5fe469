-- Cells that are gathered: their bytes one after the other, and the place where each ends.
use Rattle.std.specs.Prelude.{ℕ, ◌+◌, List, [], ◌∷◌, length}
use Rattle.conc_types.specs.Cells.{AreEnds, cut}
use Rattle.conc_tables.specs.declared.gathered.Gathered.{Gathered}

-- each byte belongs to a cell
abbrev pub AreWhole : Gathered → Type 0
AreWhole gathered = AreEnds 0 gathered.ends.items (length gathered.bytes.items)

-- the cells
abbrev pub cells_of : Gathered → List (List ℕ)
cells_of gathered = cut 0 gathered.ends.items gathered.bytes.items

-- where these cells end, one after the other from a place on
abbrev pub ends_behind : ℕ → List (List ℕ) → List ℕ
ends_behind start [] = []
ends_behind start (cell ∷ cells) = (start + length cell) ∷ ends_behind (start + length cell) cells
