-- How the rows of a column are numbered.
use Rattle.std.specs.Prelude.{◌≡◌, ◌<◌, ℕ, List, get_or, length}
use Rattle.conc_data_columns.specs.declared.numbering.Found.{Found}
use Rattle.conc_data_columns.specs.declared.numbering.Found.TheVariants as found
use Rattle.conc_data_columns.specs.declared.numbering.TheConstants.{SLOTS}

-- the sample of the number has the cell, or the slot is one
abbrev pub IsFoundAt : (ℕ → List ℕ) → List ℕ → List ℕ → Found → Type 0
IsFoundAt cell_at cell samples (found.At number) = (number < length samples) × (cell ≡ cell_at (get_or samples number 0))
IsFoundAt cell_at cell samples (found.Vacant slot) = slot < SLOTS
IsFoundAt cell_at cell samples found.Nowhere = Unit {0}
