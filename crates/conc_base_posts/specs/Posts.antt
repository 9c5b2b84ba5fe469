-- The rows that reports post, the tables with these rows behind their own, and the reports over them.
use Rattle.std.specs.Prelude.{◌≡◌, ℕ, ◌+◌, codes, Bool, true, false, ◌&&◌, if◌then◌else◌, nat_le, List, [], ◌∷◌, ◌++◌, length, map, Option, None, Some, refl}
use Rattle.std.proofs.lemmas.Bool.{leb-true}
use Rattle.std.specs.Fmt.{signed_decimal}
use Rattle.std.specs.List.{list_all, sum_by}
use Rattle.std.specs.Option.{option_and_then, option_map, option_map_or}
use Rattle.std.specs.Str.{bytes_eq}
use Rattle.conc_types.specs.declared.event.Outcome.{Outcome}
use Rattle.conc_types.specs.declared.event.Outcome.TheVariants as outcome
use Rattle.conc_types.specs.declared.limits.TheConstants.{MOST_POSTED_BYTES, MOST_POSTED_ROWS}
use Rattle.conc_types.specs.declared.plan.Plan.{Plan}
use Rattle.conc_types.specs.declared.plan.Req.{Req}
use Rattle.conc_types.specs.declared.program.Job.{Job}
use Rattle.conc_types.specs.declared.program.Program.{Program}
use Rattle.conc_types.specs.declared.table.Table.{Table}
use Rattle.conc_types.specs.Tables.{table_named}
use Rattle.conc_types.specs.Words.{has_length, some_and}
use Rattle.conc_base_law.specs.Plans.{program_of}
use Rattle.conc_base_law.specs.Report.{Report, keys, passing, report, rows_of, sum_of, Row}

-- the cells of a row
abbrev pub Cells : Type 0
Cells = List (List ℕ)

-- ---- what a report posts

-- the row that is posted for a group: its key and its sum
unfoldable pub group_row : Table → List ℕ → List ℕ → List Row → List ℕ → Cells
group_row table group column rows key = key ∷ signed_decimal (sum_of table column (rows_of table group rows key)) ∷ []

-- the rows for each group of the report, in the order of their keys' bytes
unfoldable pub rows_posted : Job → List ℕ → Table → List Cells
rows_posted job argument table =
    option_map_or (λ group.
    option_map_or (λ column.
    map (group_row table group column (passing job argument table)) (keys table group (passing job argument table)))
    job.sum [])
    job.group []

-- an end with this outcome posts the rows of its report
abbrev pub adds_rows : Outcome → Bool
adds_rows outcome.Normal = true
adds_rows outcome.Warning = true
adds_rows _ = false

-- ---- the tables

-- the rows that an end posted to a table
pub record Post : Type 0 where
  pub table : List ℕ
  pub rows : List Cells

-- all rows that were posted to a table, in order
abbrev pub posted : List ℕ → List Post → List Cells
posted table [] = []
posted table (post ∷ posts) = if bytes_eq table post.table then post.rows ++ posted table posts else posted table posts

-- the rows of a table and these behind them each have a cell for each column, and are not too many for one
unfoldable pub are_even : Table → List Cells → Bool
are_even table rows = list_all (has_length (length table.columns)) (table.rows ++ rows)

unfoldable pub are_few : Table → List Cells → Bool
are_few table rows = nat_le (length (table.rows ++ rows)) 1114112

-- the table with these rows behind its own, and without them where they do not fit into it
unfoldable pub with_rows : Table → List Cells → Table
unfolding are_even are_few
with_rows table [] = table
with_rows table (row ∷ rows) = by_fit (are_even table (row ∷ rows)) (are_few table (row ∷ rows)) refl refl
  where
    by_fit : (even few : Bool) → are_even table (row ∷ rows) ≡ even → are_few table (row ∷ rows) ≡ few → Table
    by_fit true true even few = record {
      columns = table.columns;
      rows = table.rows ++ (row ∷ rows);
      distinct = table.distinct;
      even = even;
      few = leb-true (length (table.rows ++ (row ∷ rows))) 1114112 few;
    }
    by_fit true false even few = table
    by_fit false few even e = table

-- the table of a plan with this name, with what was posted to it
unfoldable pub table_with : Plan → List Post → List ℕ → Option Table
table_with plan posts name =
    option_map (λ table. with_rows table (posted name posts)) (table_named plan.setup plan.tables name)

-- ---- the limits of a table

abbrev pub bytes_of : List Cells → ℕ
bytes_of rows = sum_by (λ row. sum_by length row) rows

-- with these rows behind those that were posted, a table stays within its limits: the one of posted rows, the one of their
-- bytes, and the one of all its rows, which no table from a file can pass
unfoldable pub is_within : Table → List Cells → List Cells → Bool
is_within table before rows =
    nat_le (length before + length rows) MOST_POSTED_ROWS
    && (nat_le (bytes_of before + bytes_of rows) MOST_POSTED_BYTES
    && nat_le (length table.rows + (length before + length rows)) 1114112)

unfoldable pub fits : Plan → List Post → List ℕ → List Cells → Bool
fits plan posts target rows =
    some_and (λ table. is_within table (posted target posts) rows) (table_named plan.setup plan.tables target)

-- ---- the reports

-- a report with the rows that it posts
pub record Booked : Type 0 where
  pub report : Report
  pub rows : List Cells

abbrev pub without_rows : Report → Booked
without_rows made = record { report = made; rows = [] }

abbrev pub table_full : Booked
table_full = without_rows (record { outcome = outcome.Error; text = codes "table full\n" })

-- what a report and its rows become for the table to which they go, if there is one
abbrev pub booked_to : Plan → List Post → Option (List ℕ) → Report → List Cells → Booked
booked_to plan posts None made rows = without_rows made
booked_to plan posts (Some target) made rows =
    if adds_rows made.outcome
    then (if fits plan posts target rows then record { report = made; rows = rows } else table_full)
    else without_rows made

unfoldable pub booked_over : Plan → List Post → Program → List ℕ → Table → Booked
booked_over plan posts program argument table =
    booked_to plan posts program.post (report program.job argument table) (rows_posted program.job argument table)

-- the report of a request of a program over the tables with these posts
unfoldable pub booked : Plan → List Post → Req → Option Booked
booked plan posts r =
    option_and_then
    (λ program. option_map (booked_over plan posts program r.argument) (table_with plan posts program.job.table))
    (program_of plan r)
