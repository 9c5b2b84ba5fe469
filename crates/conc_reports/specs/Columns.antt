-- The cells of a row, by the places of their columns.
use Rattle.std.specs.Prelude.{ℕ, ◌+◌, ℤ, pos, List, [], Option, None, Some, get_or, slice_get, unwrap_or}
use Rattle.std.specs.List.{position}
use Rattle.std.specs.Option.{option_and_then, option_map}
use Rattle.std.specs.Str.{bytes_eq}
use Rattle.conc_types.specs.declared.table.Table.{Table}
use Rattle.conc_base_law.specs.Numbers.{whole_number}
use Rattle.conc_base_law.specs.Report.{Row}
use Rattle.conc_reports.specs.declared.columns.Place.{Place}

-- the place of the column with this name
abbrev pub place_named : Table → List ℕ → Option ℕ
place_named table name = position (bytes_eq name) table.columns

-- the place of a column, if one is named
abbrev pub place_if_named : Table → Option (List ℕ) → Option (Option ℕ)
place_if_named table name = option_map (place_named table) name

-- the cell at a place; empty where there is none
abbrev pub cell_in : Option ℕ → List (List ℕ) → List ℕ
cell_in place cells = unwrap_or (option_and_then (slice_get cells) place) []

-- the number in the cell at a place; 0 where no column is asked for
abbrev pub value_in : Option (Option ℕ) → List (List ℕ) → Option ℤ
value_in None cells = Some (pos 0)
value_in (Some place) cells = whole_number (cell_in place cells)

-- the cells of a row, counted from 0
abbrev pub cells_at : Table → ℕ → List (List ℕ)
cells_at table index = get_or table.rows index []

-- the number in the cell of a row, counted from 0, at a place if one is asked for
abbrev pub value_at : Table → ℕ → Option Place → Option ℤ
value_at table row place = value_in (option_map (λ (p : Place). p.index) place) (cells_at table row)

-- a row with its number, from 1
abbrev pub row_at : Table → ℕ → Row
row_at table index = (index + 1, cells_at table index)
