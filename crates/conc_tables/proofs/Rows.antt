-- What rows without a fault are, and the first fault of a table as that of its rows.
use Rattle.std.proofs.Common.{◌≡◌, ◌≤◌, ◌<◌, ◌+◌, ◌-◌, ◌*◌, ◌/◌, ◌%◌, ◌++◌, ◌==◌, ◌∙◌, ℕ, Bool, true, false, not, nat_lt, List, [], ◌∷◌, length, get_or, Option, None, Some, refl, arith, append_assoc, length-append}
use Rattle.std.proofs.Math.Nat.{mul-div_cancel, mul-mod_left}
use Rattle.std.specs.List.{list_all}
use Rattle.std.specs.Str.{bytes_eq}
use Rattle.std.proofs.lemmas.Bool.Decides.{nat_tests}
use Rattle.conc_types.proofs.Pieces.{length-concat}
use Rattle.conc_types.specs.declared.kind.RefusalKind.{RefusalKind}
use Rattle.conc_types.specs.declared.kind.RefusalKind.TheVariants as refused
use Rattle.conc_types.specs.Faults.{Fault, fault_or, first_broken, first_fault}
use Rattle.conc_types.specs.Pieces.{concat}
use Rattle.conc_types.specs.Words.{are_distinct, has_length}
use Rattle.conc_data_records.specs.Records.{Record, records_of}
use Rattle.conc_tables.specs.Rows.{row_fault, rows_fault}
use Rattle.conc_tables.specs.Tables.{records_fault, row_kind, table_fault}

-- the row behind those that stand before it
row-behind : (before : List Record) (row : Record) (rows : List Record) → get_or (before ++ (row ∷ rows)) (length before) [] ≡ row
row-behind [] row rows = refl
row-behind (b ∷ before) row rows = row-behind before row rows

-- the faults of the lines behind those before, one after the other
faults-behind : (width : ℕ) (before rows : List Record) → first_fault (row_kind width (before ++ rows)) (length before + 1) (length rows) ≡ rows_fault width (length before + 1) rows
unfolding first_fault row_kind
faults-behind width before [] = refl
faults-behind width before (row ∷ rows) =
    let here : length before + 1 - 1 ≡ length before = omega arith in
    let whole = append_assoc before (row ∷ []) rows in
    let long : length (before ++ (row ∷ [])) ≡ length before + 1 = omega (arith, length-append before (row ∷ [])) in
    let more = rw (whole, long) at (faults-behind width (before ++ (row ∷ [])) rows) in
    rw (here, row-behind before row rows, more) refl

line-fault : (width line fields : ℕ) → row_fault width line fields ≡ None → (line ≤ 1048577) × ((fields == width) ≡ true)
line-fault width line fields e = by (nat_lt 1048577 line) (fields == width) refl refl e
  where
    by : (late even : Bool) → nat_lt 1048577 line ≡ late → (fields == width) ≡ even → first_broken ((late, refused.TooLarge) ∷ (not even, refused.RaggedRow) ∷ []) ≡ None → (line ≤ 1048577) × (even ≡ true)
    by true even l f q = cc q
    by false true l f q = (grind (arith, nat_tests), refl)
    by false false l f q = cc q

or-none : (line : ℕ) (kind : Option RefusalKind) (later : Option Fault) → fault_or line kind later ≡ None → (kind ≡ None) × (later ≡ None)
or-none line None later e = (refl, e)
or-none line (Some kind) later e = cc e

-- rows without a fault are as long as the columns
pub rows-even : (width line : ℕ) (rows : List Record) → rows_fault width line rows ≡ None → list_all (has_length width) rows ≡ true
rows-even width line [] e = refl
rows-even width line (row ∷ rows) e =
    let (none, later) = or-none line (row_fault width line (length row)) (rows_fault width (line + 1) rows) e in
    rw ((line-fault width line (length row) none).1) (rows-even width (line + 1) rows later)

-- and there are few
pub rows-few : (width line : ℕ) (rows : List Record) → line ≤ 1048578 → rows_fault width line rows ≡ None → line + length rows ≤ 1048578
rows-few width line [] l e = omega arith
rows-few width line (row ∷ rows) l e =
    let (none, later) = or-none line (row_fault width line (length row)) (rows_fault width (line + 1) rows) e in
    let within = (line-fault width line (length row) none).0 in
    let more = rows-few width (line + 1) rows (omega arith) later in
    omega arith

-- a file that is too long
pub fault-long : (bytes : List ℕ) → 67108864 < length bytes → table_fault bytes ≡ Some (0, refused.TooLarge)
unfolding table_fault
fault-long bytes long = let e : nat_lt 67108864 (length bytes) ≡ true = grind (arith, nat_tests) in rw e refl

-- another file
fault-short : (bytes : List ℕ) → length bytes ≤ 67108864 → table_fault bytes ≡ records_fault (records_of bytes)
unfolding table_fault
fault-short bytes short = let e : nat_lt 67108864 (length bytes) ≡ false = grind (arith, nat_tests) in rw e refl

-- one without a record
pub fault-none : (bytes : List ℕ) → length bytes ≤ 67108864 → records_of bytes ≡ [] → table_fault bytes ≡ Some (1, refused.NoHeader)
fault-none bytes short e = fault-short bytes short ∙ rw e refl

-- one in which two columns have one name
pub fault-doubled : (bytes : List ℕ) (head : Record) (rows : List Record) → length bytes ≤ 67108864 → records_of bytes ≡ head ∷ rows
    → are_distinct bytes_eq head ≡ false → table_fault bytes ≡ Some (1, refused.DuplicateColumn)
fault-doubled bytes head rows short e d = fault-short bytes short ∙ rw (e, d) refl

-- one with columns
pub fault-rows : (bytes : List ℕ) (head : Record) (rows : List Record) → length bytes ≤ 67108864 → records_of bytes ≡ head ∷ rows
    → are_distinct bytes_eq head ≡ true → table_fault bytes ≡ rows_fault (length head) 2 rows
fault-rows bytes head rows short e d = fault-short bytes short ∙ rw (e, d) (faults-behind (length head) (head ∷ []) rows)

-- the cells are whole rows, and few of them
pub cells-whole : (width : ℕ) (cells : Record) (rows : List Record) → 0 < width → rows_fault width 2 rows ≡ None → cells ≡ concat rows
    → (length cells % width ≡ 0) × (length cells / width ≤ 1114112)
cells-whole width cells rows some e same =
    let size : length cells ≡ length rows * width = rw same (length-concat width rows (rows-even width 2 rows e)) in
    let few = rows-few width 2 rows (omega arith) e in
    rw size (mul-mod_left (length rows) width, rw (mul-div_cancel (length rows) some) (omega arith))
