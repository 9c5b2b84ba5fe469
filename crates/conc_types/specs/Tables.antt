-- The tables of a plan.
use Rattle.std.specs.Prelude.{ℕ, Bool, ◌&&◌, ◌==◌, List, length, Option, slice_get}
use Rattle.std.specs.List.{list_all, list_any, position}
use Rattle.std.specs.Option.{option_and_then}
use Rattle.std.specs.Str.{bytes_eq}
use Rattle.conc_types.specs.declared.program.Job.{Job}
use Rattle.conc_types.specs.declared.program.Program.{Program}
use Rattle.conc_types.specs.declared.setup.Setup.{Setup}
use Rattle.conc_types.specs.declared.table.Table.{Table}
use Rattle.conc_types.specs.Words.{none_or, some_and}

-- the table with this name
abbrev pub table_named : Setup → List Table → List ℕ → Option Table
table_named setup tables name = option_and_then (slice_get tables) (position (bytes_eq name) setup.tables)

abbrev pub has_column : Table → List ℕ → Bool
has_column table name = list_any (bytes_eq name) table.columns

-- the table has each column that the job names
abbrev pub has_columns : Job → Table → Bool
has_columns job table =
    list_all (λ f. has_column table f.column) job.filters
    && (none_or (has_column table) job.group && none_or (has_column table) job.sum)

abbrev pub can_report : Setup → List Table → Program → Bool
can_report setup tables program = some_and (has_columns program.job) (table_named setup tables program.job.table)

-- one table for each name of the setup, with the columns that the programs name
abbrev pub are_tables : Setup → List Table → Bool
are_tables setup tables =
    length tables == length setup.tables && list_all (can_report setup tables) setup.programs
