use Rattle.std.proofs.Common.{◌≡◌, take}
use Rattle.std.specs.List.{list_all}
use Rattle.conc_base_law.specs.Report.{Row, passes_filter}
use Rattle.conc_reports.specs.Checks.{holds}
use Rattle.conc_reports.proofs.filters.conditions.Given as goal

abbrev pub invariant-loop-filter : goal.invariant-loop-filter
invariant-loop-filter l =
    (row : Row) → list_all (holds row.1) l.conditions.items ≡ list_all (passes_filter l.table l.argument row) (take l.filter-index l.filter-items)
