-- The cells of a column by what is kept of it.
use Rattle.std.proofs.Common.{◌≡◌, ◌∙◌, sym, ap, refl, ℕ, ◌<◌, List, [], Option, None, Some, get_or, length}
use Rattle.std.specs.Borrow.{Bor}
use Rattle.std.specs.Option.{option_map}
use Rattle.std.proofs.lemmas.List.{get_or-map, get_or_read}
use Rattle.std.proofs.lemmas.Option.{unwrap_or-slice_get}
use Rattle.conc_types.specs.declared.kept.Numbering.{Numbering}
use Rattle.conc_types.specs.declared.table.Table.{Table}
use Rattle.conc_types.specs.Kept.{cell_of}
use Rattle.conc_reports.specs.Columns.{cell_in, cells_at}
use Rattle.conc_reports.specs.Listings.{keys_of}

pub cell_in-column : (table : Table) (row column : ℕ) → cell_in (Some column) (cells_at table row) ≡ cell_of table.rows row column
cell_in-column table row column = unwrap_or-slice_get (cells_at table row) column []

-- the cell of a row at the place of a group whose rows are numbered
pub group-cell : (table : Table) (row : ℕ) (place : Option (Option ℕ)) (numbering : Option (Bor Numbering)) → place ≡ option_map (λ (n : Bor Numbering). Some n.now.column) numbering
    → option_map (λ p. cell_in p (cells_at table row)) place ≡ option_map (λ (n : Bor Numbering). cell_of table.rows row n.now.column) numbering
group-cell table row place None e = rw e refl
group-cell table row place (Some n) e = rw e (ap (λ (cell : List ℕ). Some cell) (cell_in-column table row n.now.column))

-- the key of a number is the cell of its sample
pub key-sample : (rows : List (List (List ℕ))) (numbering : Numbering) (n sample : ℕ) → n < length numbering.samples.items → sample ≡ get_or numbering.samples.items n sample
    → get_or (keys_of rows numbering) n [] ≡ cell_of rows sample numbering.column
key-sample rows numbering n sample below is =
    get_or-map (λ s. cell_of rows s numbering.column) numbering.samples.items n 0 [] below
    ∙ ap (λ (s : ℕ). cell_of rows s numbering.column) (sym (get_or_read numbering.samples.items n sample below is 0))

-- the cell at the place of a column
pub cell-at : (table : Table) (row column : ℕ) (place : Option ℕ) → place ≡ Some column → cell_of table.rows row column ≡ cell_in place (cells_at table row)
cell-at table row column place known = sym (cell_in-column table row column) ∙ ap (λ (p : Option ℕ). cell_in p (cells_at table row)) (sym known)
