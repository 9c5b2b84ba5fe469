-- The table's text is a table.
use Rattle.std.proofs.Common.{◌≡◌, ◌≤◌, ◌+◌, ◌*◌, ℕ, true, false, List, [], ◌∷◌, ◌++◌, None, codes, ap, arith, length, length-append, lit≤, refl}
use Rattle.std.specs.Prelude.{nat_lt}
use Rattle.std.specs.Fmt.{decimal}
use Rattle.std.specs.List.{list_all}
use Rattle.std.proofs.lemmas.Bool.Decides.{nat_tests}
use Rattle.csv.specs.Reading.{strip_bom}
use Rattle.conc_types.specs.declared.table.Table.{Table}
use Rattle.conc_types.specs.Faults.{first_fault}
use Rattle.conc_data_records.specs.Records.{Record, records_of}
use Rattle.conc_tables.specs.Tables.{SpellsTable, records_fault, row_kind, table_fault}
use Rattle.conc_make.specs.Draws.{after, drawn}
use Rattle.conc_make.specs.Files.{line, made, row, table_header, table_text, text_of}
use Rattle.conc_make.proofs.Lines.{row-parts}
use Rattle.conc_make.proofs.ReadBack.{ReadsBack, is_plain, made-read, made-short, plain-reads}
use Rattle.conc_make.proofs.Tried.{drawn-below, key-word, value-word}

two-plain : (x y : List ℕ) → is_plain x ≡ true → is_plain y ≡ true → list_all is_plain (x ∷ y ∷ []) ≡ true
two-plain x y e f = rw (e, f) refl

row-reads : (x : ℕ) → ReadsBack (row x)
unfolding row
row-reads x =
    let key = key-word (drawn 5 (after 1 x)) (drawn-below 5 (after 1 x) (omega arith)) in
    let value = value-word (drawn 1000 (after 2 x)) (drawn-below 1000 (after 2 x) (omega arith)) in
    plain-reads (107 ∷ decimal (drawn 5 (after 1 x))) (decimal (drawn 1000 (after 2 x))) [] (two-plain (107 ∷ decimal (drawn 5 (after 1 x))) (decimal (drawn 1000 (after 2 x))) key.word.plain value.plain)

row-short : (key value : List ℕ) → length (107 ∷ key) ≤ 2 → length value ≤ 3 → length (line ((107 ∷ key) ∷ value ∷ [])) ≤ 7
row-short key value k v =
    omega (arith, ap length (row-parts key value), length-append key (44 ∷ (value ++ 10 ∷ [])), length-append value (10 ∷ []))

rows-short : (x : ℕ) → length (line (row x)) ≤ 7
unfolding row
rows-short x =
    let key = key-word (drawn 5 (after 1 x)) (drawn-below 5 (after 1 x) (omega arith)) in
    let value = value-word (drawn 1000 (after 2 x)) (drawn-below 1000 (after 2 x) (omega arith)) in
    row-short (decimal (drawn 5 (after 1 x))) (decimal (drawn 1000 (after 2 x))) key.word.short value.short

header-reads : ReadsBack table_header
header-reads = plain-reads (codes "k") (codes "v") [] refl

no_mark : (seed : ℕ) → strip_bom (text_of (table_header ∷ made row 2 64 seed)) ≡ text_of (table_header ∷ made row 2 64 seed)
unfolding strip_bom text_of
no_mark seed = refl

pub table-records : (seed : ℕ) → records_of (table_text seed) ≡ table_header ∷ made row 2 64 seed
unfolding table_text
table-records seed = made-read table_header row 2 64 seed header-reads row-reads (no_mark seed)

few-bytes : (n : ℕ) → n ≤ 4 + 7 * 64 → nat_lt 67108864 n ≡ false
few-bytes n few = grind (arith, nat_tests)

table-short : (seed : ℕ) → length (table_text seed) ≤ 4 + 7 * 64
unfolding table_text
table-short seed = made-short table_header row 2 64 seed 7 rows-short

records-faultless : (seed : ℕ) → records_fault (table_header ∷ made row 2 64 seed) ≡ None
unfolding first_fault row_kind made row
records-faultless seed = refl

faultless_by : (bytes : List ℕ) (records : List Record) → nat_lt 67108864 (length bytes) ≡ false → records_of bytes ≡ records → records_fault records ≡ None → table_fault bytes ≡ None
unfolding table_fault
faultless_by bytes records few is none = rw (few, is) none

-- the table that is made
unfoldable pub the_table : ℕ → Table
unfolding made row
the_table seed = record { columns = table_header; rows = made row 2 64 seed; distinct = refl; even = refl; few = lit≤ tt }

pub table-spelled : (seed : ℕ) → SpellsTable (table_text seed) (the_table seed)
unfolding the_table
table-spelled seed = record {
  faultless = faultless_by (table_text seed) (table_header ∷ made row 2 64 seed) (few-bytes _ (table-short seed)) (table-records seed) (records-faultless seed);
  records_are = table-records seed;
}
