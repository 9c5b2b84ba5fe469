-- A table: the names of its columns in the first record, and a row in each later one.
use Rattle.std.specs.Prelude.{◌≡◌, ℕ, ◌+◌, ◌-◌, not, nat_lt, if◌then◌else◌, List, [], ◌∷◌, get_or, length, Option, None, Some}
use Rattle.std.specs.Str.{bytes_eq}
use Rattle.conc_types.specs.declared.kind.RefusalKind.{RefusalKind}
use Rattle.conc_types.specs.declared.kind.RefusalKind.TheVariants as refused
use Rattle.conc_types.specs.declared.table.Table.{Table}
use Rattle.conc_types.specs.Faults.{Fault, first_broken, first_fault}
use Rattle.conc_types.specs.Words.{are_distinct, has_length}
use Rattle.conc_data_records.specs.Records.{Record, records_of}
use Rattle.conc_tables.specs.declared.reading.TheConstants.{MOST_ROWS}

-- the first rule that the record with this number breaks: there are at most so many rows, each as long as the header
unfoldable pub row_kind : ℕ → List Record → ℕ → Option RefusalKind
row_kind width records n =
    first_broken ((nat_lt (MOST_ROWS + 1) n, refused.TooLarge) ∷ (not (has_length width (get_or records (n - 1) [])), refused.RaggedRow) ∷ [])

-- the first fault of these records: that there is none, that two columns have one name, or that of a row
abbrev pub records_fault : List Record → Option Fault
records_fault [] = Some (1, refused.NoHeader)
records_fault (head ∷ rows) =
    if are_distinct bytes_eq head then first_fault (row_kind (length head) (head ∷ rows)) 2 (length rows) else Some (1, refused.DuplicateColumn)

-- the first fault of a table's file: its size, or that of its records
unfoldable pub table_fault : List ℕ → Option Fault
table_fault bytes =
    if nat_lt 67108864 (length bytes) then Some (0, refused.TooLarge) else records_fault (records_of bytes)

-- the bytes have no fault, and their records are the columns and the rows
pub record SpellsTable (bytes : List ℕ) (table : Table) : Type 0 where
  pub faultless : table_fault bytes ≡ None
  pub records_are : records_of bytes ≡ table.columns ∷ table.rows
