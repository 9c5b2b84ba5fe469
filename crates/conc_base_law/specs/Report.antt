-- The report of a program over a table, by filters and sums of its rows.
use Rattle.std.specs.Prelude.{ℕ, ℤ, Bool, not, ◌||◌, ◌==◌, nat_lt, int_lt, if◌then◌else◌, List, [], ◌∷◌, ◌++◌, length, map, Option, None, Some, is_none, unwrap_or, slice_get, nat_eq}
use Rattle.std.specs.Prelude.{codes}
use Rattle.std.specs.Cmp.Lexicographic.{slice_cmp}
use Rattle.std.specs.Fmt.{decimal, signed_decimal}
use Rattle.std.specs.List.{concat, enumerate_from, filter, filter_map, find, list_all, list_any, position, starts_with}
use Rattle.std.specs.Option.{option_and_then, option_map_or}
use Rattle.std.specs.Ordering.{nat_cmp, is_lt}
use Rattle.std.specs.Str.{bytes_eq}
use Rattle.conc_types.specs.declared.event.Outcome.{Outcome}
use Rattle.conc_types.specs.declared.event.Outcome.TheVariants as outcome
use Rattle.conc_types.specs.declared.limits.TheConstants.{MOST_REPORT_BYTES}
use Rattle.conc_types.specs.declared.table.Table.{Table}
use Rattle.conc_types.specs.declared.program.Filter.{Filter}
use Rattle.conc_types.specs.declared.program.Job.{Job}
use Rattle.conc_types.specs.declared.program.Test.{Test}
use Rattle.conc_types.specs.declared.program.Test.TheVariants as test
use Rattle.conc_types.specs.Words.{some_and}
use Rattle.conc_base_law.specs.Numbers.{total, whole_number}

-- what a run of a program gives
pub record Report : Type 0 where
  pub outcome : Outcome
  pub text : List ℕ

-- a row with its number, from 1
abbrev pub Row : Type 0
Row = ℕ × List (List ℕ)

-- the cell of a row in the column with this name
unfoldable pub cell : Table → List ℕ → Row → List ℕ
cell table name row = unwrap_or (option_and_then (slice_get row.1) (position (bytes_eq name) table.columns)) []

-- both are whole numbers, in this order
abbrev pub less : List ℕ → List ℕ → Bool
less a b = some_and (λ m. some_and (λ n. int_lt m n) (whole_number b)) (whole_number a)

abbrev pub passes_test : Test → List ℕ → List ℕ → Bool
passes_test test.Is cell value = bytes_eq cell value
passes_test test.IsNot cell value = not (bytes_eq cell value)
passes_test test.StartsWith cell value = starts_with nat_eq cell value
passes_test test.Above cell value = less value cell
passes_test test.Below cell value = less cell value

-- the value of a filter; a dollar sign alone stands for the argument
unfoldable pub filter_value : List ℕ → Filter → List ℕ
filter_value argument f = if bytes_eq f.value (codes "$") then argument else f.value

unfoldable pub passes_filter : Table → List ℕ → Row → Filter → Bool
passes_filter table argument row f = passes_test f.test (cell table f.column row) (filter_value argument f)

unfoldable pub passes : Job → List ℕ → Table → Row → Bool
passes job argument table row = list_all (passes_filter table argument row) job.filters

-- the rows that pass every filter
unfoldable pub passing : Job → List ℕ → Table → List Row
passing job argument table = filter (passes job argument table) (enumerate_from 1 table.rows)

-- the keys of these rows in the order of their bytes, each once
abbrev pub insert_key : List ℕ → List (List ℕ) → List (List ℕ)
insert_key key [] = key ∷ []
insert_key key (k ∷ ks) =
    if bytes_eq key k then k ∷ ks
    else (if is_lt (slice_cmp nat_cmp key k) then key ∷ k ∷ ks else k ∷ insert_key key ks)

abbrev pub ordered : List (List ℕ) → List (List ℕ)
ordered [] = []
ordered (key ∷ keys) = insert_key key (ordered keys)

unfoldable pub keys : Table → List ℕ → List Row → List (List ℕ)
keys table group rows = ordered (map (cell table group) rows)

-- a key that holds a comma, a quote or an end of line stands in quotes, with its quotes doubled
abbrev pub needs_quotes : List ℕ → Bool
needs_quotes key = list_any (λ byte. byte == 44 || (byte == 34 || (byte == 13 || byte == 10))) key

abbrev pub doubled : List ℕ → List ℕ
doubled [] = []
doubled (byte ∷ bytes) = if byte == 34 then 34 ∷ 34 ∷ doubled bytes else byte ∷ doubled bytes

unfoldable pub quoted : List ℕ → List ℕ
quoted key = if needs_quotes key then codes "\"" ++ doubled key ++ codes "\"" else key

-- the sum of a column over these rows
unfoldable pub sum_of : Table → List ℕ → List Row → ℤ
sum_of table column rows = total (filter_map (λ row. whole_number (cell table column row)) rows)

-- a line with a count and, where asked for, a sum
unfoldable pub line : Job → Table → List ℕ → List Row → List ℕ
line job table head rows =
    head ++ codes "," ++ decimal (length rows)
    ++ option_map_or (λ column. codes "," ++ signed_decimal (sum_of table column rows)) job.sum []
    ++ codes "\n"

unfoldable pub header : Job → List ℕ
header job = codes "key,count" ++ option_map_or (λ _. codes ",sum") job.sum [] ++ codes "\n"

-- the rows of a key
unfoldable pub rows_of : Table → List ℕ → List Row → List ℕ → List Row
rows_of table group rows key = filter (λ row. bytes_eq (cell table group row) key) rows

unfoldable pub group_lines : Job → Table → List Row → List ℕ → List ℕ
group_lines job table rows group =
    concat (map (λ key. line job table (quoted key) (rows_of table group rows key)) (keys table group rows))

unfoldable pub full_text : Job → Table → List Row → List ℕ
full_text job table rows =
    header job ++ option_map_or (group_lines job table rows) job.group [] ++ line job table (codes "total") rows

abbrev pub exceeds : ℕ → Option ℕ → Bool
exceeds count limit = some_and (λ most. nat_lt most count) limit

unfoldable pub outcome_by : Job → List Row → Outcome
outcome_by job rows =
    if exceeds (length rows) job.error_over then outcome.Error
    else (if exceeds (length rows) job.warn_over then outcome.Warning else outcome.Normal)

-- the first row whose cell to be added is no whole number
unfoldable pub first_bad : Job → Table → List Row → Option Row
first_bad job table rows =
    option_and_then (λ column. find (λ row. is_none (whole_number (cell table column row))) rows) job.sum

abbrev pub report_by : Job → Table → List Row → Option Row → Report
report_by job table rows (Some row) =
    record { outcome = outcome.Error; text = codes "row " ++ decimal row.0 ++ codes ": not a whole number\n" }
report_by job table rows None =
    if nat_lt MOST_REPORT_BYTES (length (full_text job table rows))
    then record { outcome = outcome.Error; text = codes "too long\n" }
    else record { outcome = outcome_by job rows; text = full_text job table rows }

-- the report of a job with an argument over a table
unfoldable pub report : Job → List ℕ → Table → Report
report job argument table =
    report_by job table (passing job argument table) (first_bad job table (passing job argument table))
