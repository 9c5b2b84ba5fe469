-- What is made of a column.
use Rattle.std.specs.Prelude.{ℕ, List}
use Rattle.conc_types.specs.Kept.{AreAmounts, IsNumbering}
use Rattle.conc_data_columns.specs.declared.making.Made.{Made}
use Rattle.conc_data_columns.specs.declared.making.Made.TheVariants as made

-- it stands for the cells of the rows
abbrev pub Stands : List (List (List ℕ)) → Made → Type 0
Stands rows (made.Numbers numbering) = IsNumbering rows numbering
Stands rows (made.Amounts amounts) = AreAmounts rows amounts
Stands rows made.Nothing = Unit {0}
