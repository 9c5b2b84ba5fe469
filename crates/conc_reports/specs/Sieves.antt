-- Conditions on the rows of a table, by what is kept of its columns.
use Rattle.std.specs.Prelude.{◌≡◌, ◌<◌, ℕ, Bool, List, false, get_or, length}
use Rattle.std.specs.List.{All, list_all}
use Rattle.conc_types.specs.declared.table.Table.{Table}
use Rattle.conc_types.specs.Kept.{AreAmounts, IsNumbering, cell_of}
use Rattle.conc_base_law.specs.Numbers.{whole_number}
use Rattle.conc_reports.specs.Checks.{holds, is_less}
use Rattle.conc_reports.specs.Columns.{cells_at}
use Rattle.conc_reports.specs.declared.filters.Condition.{Condition}
use Rattle.conc_reports.specs.declared.sieves.Sieve.{Sieve}
use Rattle.conc_reports.specs.declared.sieves.Sieve.TheVariants as sieve

-- what a sieve has was kept of the table
abbrev pub IsSound : Table → Sieve → Type 0
IsSound table (sieve.Numbers numbering verdicts) =
    IsNumbering table.rows numbering.now × (length verdicts.items ≡ length numbering.now.samples.items)
IsSound table (sieve.Above bound amounts) = AreAmounts table.rows amounts.now × (amounts.now.column < length table.columns)
IsSound table (sieve.Below bound amounts) = AreAmounts table.rows amounts.now × (amounts.now.column < length table.columns)
IsSound table (sieve.Cells condition) = Unit {0}

-- a row of a table gets through
abbrev pub lets : Table → ℕ → Sieve → Bool
lets table row (sieve.Numbers numbering verdicts) = get_or verdicts.items (get_or numbering.now.numbers.items row 0) false
lets table row (sieve.Above bound amounts) = is_less bound (whole_number (cell_of table.rows row amounts.now.column))
lets table row (sieve.Below bound amounts) = is_less (whole_number (cell_of table.rows row amounts.now.column)) bound
lets table row (sieve.Cells condition) = holds (cells_at table row) condition

abbrev pub AreSound : Table → List Sieve → Type 0
AreSound table sieves = All (IsSound table) sieves

-- a sieve lets those rows through that meet a condition
pub record IsSieve (table : Table) (condition : Condition) (sieve : Sieve) : Type 0 where
  pub sound : IsSound table sieve
  pub same : (row : ℕ) → row < length table.rows → lets table row sieve ≡ holds (cells_at table row) condition

-- sieves let those rows through that meet each condition
pub record AreSieves (table : Table) (conditions : List Condition) (sieves : List Sieve) : Type 0 where
  pub sound : AreSound table sieves
  pub same : (row : ℕ) → row < length table.rows → list_all (lets table row) sieves ≡ list_all (holds (cells_at table row)) conditions
