-- The records of a text of comma-separated fields.
use Rattle.std.specs.Prelude.{ℕ, List}
use Rattle.csv.specs.Reading.{default_config, records, strip_bom}

-- the fields of a record
abbrev pub Record : Type 0
Record = List (List ℕ)

-- the records of a text, as `csv` reads them with its defaults
unfoldable pub records_of : List ℕ → List Record
records_of bytes = records default_config (strip_bom bytes)
