-- The rows of a table: its cells, cut into pieces of as many as there are columns.
use Rattle.std.specs.Prelude.{ℕ, zero, suc, ◌/◌, ◌≤◌, List, [], ◌∷◌, IsTrue, take, drop, length}
use Rattle.std.specs.List.{flat_map, list_all}
use Rattle.std.specs.Str.{bytes_eq}
use Rattle.conc_types.specs.Words.{are_distinct, has_length}

-- the first so many pieces of a width
unfoldable pub pieces : {T : Type 0} → ℕ → ℕ → List T → List (List T)
pieces zero width xs = []
pieces (suc count) width xs = take width xs ∷ pieces count width (drop width xs)

-- the whole pieces of a width
abbrev pub rows_of : {T : Type 0} → ℕ → List T → List (List T)
rows_of width cells = pieces (length cells / width) width cells

-- the cells of these rows, row by row
abbrev pub concat : {T : Type 0} → List (List T) → List T
concat rows = flat_map (λ row. row) rows

-- what a clause sees of a table: the names of its columns, and its rows
pub record Content : Type 0 where
  pub columns : List (List ℕ)
  pub rows : List (List (List ℕ))
  pub distinct : IsTrue (are_distinct bytes_eq columns)
  pub even : IsTrue (list_all (has_length (length columns)) rows)
  pub few : length rows ≤ 1114112
