-- What one pass over the rows of a table gathers.
use Rattle.std.specs.Prelude.{◌≡◌, ℕ, ℤ, IfSome, List, [], ◌∷◌, Option, None, Some, is_none, length, take}
use Rattle.std.specs.Borrow.{Bor}
use Rattle.std.specs.BTreeMap.{BTreeMap, IsOrdered}
use Rattle.std.specs.Cmp.Lexicographic.{slice_cmp}
use Rattle.std.specs.List.{enumerate_from, filter, filter_map, find}
use Rattle.std.specs.Option.{option_map}
use Rattle.std.specs.Ordering.{nat_cmp}
use Rattle.conc_types.specs.declared.program.Job.{Job}
use Rattle.conc_types.specs.declared.table.Table.{Table}
use Rattle.conc_base_law.specs.Numbers.{total}
use Rattle.conc_base_law.specs.Report.{Row, first_bad, passes, passing, rows_of}
use Rattle.conc_reports.specs.declared.figures.Figures.{Figures}
use Rattle.conc_reports.specs.declared.tally.Tallied.{Tallied}
use Rattle.conc_reports.specs.declared.tally.Tallied.TheVariants as tallied
use Rattle.conc_reports.specs.Columns.{place_if_named, value_in}
use Rattle.conc_reports.specs.Figures.{figures_at, shown}

-- the first rows that pass
abbrev pub passing_below : Job → List ℕ → Table → ℕ → List Row
passing_below job argument table n = filter (passes job argument table) (take n (enumerate_from 1 table.rows))

-- what a row adds to the sum
abbrev pub value_of : Option (List ℕ) → Table → Row → Option ℤ
value_of sum table row = value_in (place_if_named table sum) row.1

-- how many rows, and the sum of what they add
abbrev pub figures : Option (List ℕ) → Table → List Row → ℕ × ℤ
figures sum table rows = (length rows, total (filter_map (value_of sum table) rows))

-- the same, if there are any
abbrev pub figures_if_any : Option (List ℕ) → Table → List Row → Option (ℕ × ℤ)
figures_if_any sum table [] = None
figures_if_any sum table (row ∷ rows) = Some (figures sum table (row ∷ rows))

-- the figures of a key, if a row has it
abbrev pub figures_of_key : Option (List ℕ) → Option (List ℕ) → Table → List Row → List ℕ → Option (ℕ × ℤ)
figures_of_key sum None table rows key = None
figures_of_key sum (Some group) table rows key = figures_if_any sum table (rows_of table group rows key)

-- the figures of all these rows and of each key among them, where each row has what it is to add
pub record IsTally (sum group : Option (List ℕ)) (table : Table) (rows : List Row) (all : ℕ × ℤ) (of_key : List ℕ → Option (ℕ × ℤ)) : Type 0 where
  pub all_are : all ≡ figures sum table rows
  pub keys_are : (key : List ℕ) → of_key key ≡ figures_of_key sum group table rows key
  pub none_bad : find (λ row. is_none (value_of sum table row)) rows ≡ None

abbrev pub IsTallied : Job → List ℕ → Table → Tallied → Type 0
IsTallied job argument table (tallied.Bad number) =
    option_map (λ row. row.0) (first_bad job table (passing job argument table)) ≡ Some number
IsTallied job argument table (tallied.Whole tally) =
    IsTally job.sum job.group table (passing job argument table) (shown tally.total) (figures_at tally.groups)

-- the same, where the rows were gone over
abbrev pub IfTallied : Job → List ℕ → Table → Option Tallied → Type 0
IfTallied job argument table pass = IfSome pass (IsTallied job argument table)

-- the groups stand in the order of their keys' bytes
abbrev pub AreOrdered : BTreeMap (Bor (List ℕ)) Figures → Type 0
AreOrdered groups = IsOrdered (λ (x y : Bor (List ℕ)). slice_cmp nat_cmp x.now y.now) groups
