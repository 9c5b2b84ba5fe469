-- What is written with the defaults of `csv` is read back as it was.
use Rattle.std.proofs.Common.{◌≡◌, ◌∙◌, ◌<◌, ◌+◌, ℕ, zero, suc, List, [], ◌∷◌, ◌++◌, None, ap, arith, length, map, refl}
use Rattle.csv.specs.Machine.{next_record}
use Rattle.csv.specs.Reading.{default_config, records, records_from, records_next, strip_bom}
use Rattle.csv.specs.Writing.{default_writer, escaped, fields_text, is_blank, read_back, row_text}
use Rattle.csv.specs.declared.parser.State.TheVariants as st
use Rattle.csv.proofs.RoundTrip.{read-write, rows_text}
use Rattle.conc_data_records.specs.Records.{Record, records_of}
use Rattle.conc_data_records.proofs.Fuel.{records_from-same}
use Rattle.conc_repeat.specs.declared.dues.Due.{Due}
use Rattle.conc_repeat.specs.Script.{line_of, script_header, text_of}

text-rows : (rows : List Record) → text_of rows ≡ rows_text rows
unfolding text_of rows_text
text-rows [] = refl
text-rows (row ∷ rows) = ap (λ t. row_text default_writer row ++ t) (text-rows rows)

nothing-left : next_record default_config st.StartRecord [] [] [] ≡ None
unfolding next_record
nothing-left = refl

rows-read : (n : ℕ) (rows : List Record) → length rows < n → records_from default_config n st.StartRecord (rows_text rows) ≡ map read_back rows
unfolding records_from rows_text
rows-read zero rows short = absurd (omega arith)
rows-read (suc n) [] short = ap (records_next (records_from default_config n)) nothing-left
rows-read (suc n) (row ∷ rows) short =
    ap (records_next (records_from default_config n)) (read-write row (rows_text rows)) ∙ ap (λ rs. read_back row ∷ rs) (rows-read n rows (omega arith))

-- records whose text begins with no byte order mark
pub written-read : (rows : List Record) → strip_bom (text_of rows) ≡ text_of rows → records_of (text_of rows) ≡ map read_back rows
unfolding records_of
written-read rows bare =
    ap (records default_config) bare
    ∙ (records_from-same (length (text_of rows) + 1) (suc (length (text_of rows) + length rows)) st.StartRecord (text_of rows) (omega arith) (omega arith)
    ∙ (ap (records_from default_config (suc (length (text_of rows) + length rows)) st.StartRecord) (text-rows rows)
    ∙ rows-read (suc (length (text_of rows) + length rows)) rows (omega arith)))

no_mark : (rows : List Record) → strip_bom (text_of (script_header ∷ rows)) ≡ text_of (script_header ∷ rows)
unfolding strip_bom text_of fields_text escaped is_blank
no_mark rows = refl

lines-kept : (records : List Record) (dues : List Due) → map read_back (map (line_of records) dues) ≡ map (line_of records) dues
lines-kept records [] = refl
lines-kept records (due ∷ dues) = ap (λ rs. line_of records due ∷ rs) (lines-kept records dues)

-- a script of submissions
pub script-read : (records : List Record) (dues : List Due) → records_of (text_of (script_header ∷ map (line_of records) dues)) ≡ script_header ∷ map (line_of records) dues
script-read records dues =
    written-read (script_header ∷ map (line_of records) dues) (no_mark (map (line_of records) dues)) ∙ ap (λ rs. script_header ∷ rs) (lines-kept records dues)
