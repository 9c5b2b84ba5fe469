-- The filters of a job, made ready for the rows of one table.
use Rattle.std.specs.Prelude.{ℕ, ℤ, Bool, not, int_lt, List, Option, nat_eq}
use Rattle.std.specs.List.{starts_with}
use Rattle.std.specs.Str.{bytes_eq}
use Rattle.conc_types.specs.Words.{some_and}
use Rattle.conc_base_law.specs.Numbers.{whole_number}
use Rattle.conc_reports.specs.Columns.{cell_in}
use Rattle.conc_reports.specs.declared.filters.Check.{Check}
use Rattle.conc_reports.specs.declared.filters.Check.TheVariants as check
use Rattle.conc_reports.specs.declared.filters.Condition.{Condition}

-- both numbers are there, in this order
abbrev pub is_less : Option ℤ → Option ℤ → Bool
is_less a b = some_and (λ m. some_and (λ n. int_lt m n) b) a

abbrev pub meets : Check → List ℕ → Bool
meets (check.Is value) cell = bytes_eq cell value.now
meets (check.IsNot value) cell = not (bytes_eq cell value.now)
meets (check.StartsWith value) cell = starts_with nat_eq cell value.now
meets (check.Above value) cell = is_less value (whole_number cell)
meets (check.Below value) cell = is_less (whole_number cell) value

-- the cells of a row meet a condition
abbrev pub holds : List (List ℕ) → Condition → Bool
holds cells condition = meets condition.check (cell_in condition.place.index cells)
