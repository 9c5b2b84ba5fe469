-- The faults of a table's rows, from one line on.
use Rattle.std.specs.Prelude.{ℕ, ◌+◌, ◌==◌, not, nat_lt, List, [], ◌∷◌, length, Option, None}
use Rattle.conc_types.specs.declared.kind.RefusalKind.{RefusalKind}
use Rattle.conc_types.specs.declared.kind.RefusalKind.TheVariants as refused
use Rattle.conc_types.specs.Faults.{Fault, fault_or, first_broken}
use Rattle.conc_data_records.specs.Records.{Record}
use Rattle.conc_tables.specs.declared.reading.TheConstants.{MOST_ROWS}

-- the kind of the first rule that a row on this line breaks, with so many fields under so many columns
abbrev pub row_fault : ℕ → ℕ → ℕ → Option RefusalKind
row_fault width line fields = first_broken ((nat_lt (MOST_ROWS + 1) line, refused.TooLarge) ∷ (not (fields == width), refused.RaggedRow) ∷ [])

-- the first fault of these rows, the first of which stands on this line
abbrev pub rows_fault : ℕ → ℕ → List Record → Option Fault
rows_fault width line [] = None
rows_fault width line (row ∷ rows) = fault_or line (row_fault width line (length row)) (rows_fault width (line + 1) rows)
