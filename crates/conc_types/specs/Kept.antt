-- What is kept of a column of rows beside its cells.
use Rattle.std.specs.Prelude.{◌≡◌, ◌≢◌, ◌<◌, ℕ, List, [], Some, get_or, length, pos}
use Rattle.conc_types.specs.Numbers.{whole_number}
use Rattle.conc_types.specs.declared.kept.Amounts.{Amounts}
use Rattle.conc_types.specs.declared.kept.Numbering.{Numbering}
use Rattle.conc_types.specs.declared.kept.TheConstants.{NOT_KEPT}

-- the cell of a row in a column, both counted from 0
abbrev pub cell_of : List (List (List ℕ)) → ℕ → ℕ → List ℕ
cell_of rows row column = get_or (get_or rows row []) column []

-- each row has a number, and the cell of the sample of this number
pub record IsNumbering (rows : List (List (List ℕ))) (numbering : Numbering) : Type 0 where
  pub each : length numbering.numbers.items ≡ length rows
  pub named : (row : ℕ) → row < length rows → get_or numbering.numbers.items row 0 < length numbering.samples.items
  pub within : (number : ℕ) → number < length numbering.samples.items → get_or numbering.samples.items number 0 < length rows
  pub same : (row : ℕ) → row < length rows
      → cell_of rows row numbering.column ≡ cell_of rows (get_or numbering.samples.items (get_or numbering.numbers.items row 0) 0) numbering.column

-- each row has the whole number of its cell, or the mark that it is not kept
pub record AreAmounts (rows : List (List (List ℕ))) (amounts : Amounts) : Type 0 where
  pub each : length amounts.values.items ≡ length rows
  pub known : (row : ℕ) → row < length rows → get_or amounts.values.items row (pos 0) ≢ NOT_KEPT
      → whole_number (cell_of rows row amounts.column) ≡ Some (get_or amounts.values.items row (pos 0))
