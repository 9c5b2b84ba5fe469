use Rattle.std.proofs.Common.{◌∙◌, sym, ap, ℕ, Option}
use Rattle.conc_base_law.specs.Numbers.{whole_number}
use Rattle.conc_reports.specs.Columns.{cells_at, value_in}
use Rattle.conc_reports.proofs.Kept.{cell_in-column}
use Rattle.conc_reports.proofs.columns.kept_value_at.Goals as goal

pub returns-in-Some : goal.returns-in-Some
returns-in-Some c =
    let table = c.args.table.now in
    let place = rw c.in-Some.is at c.requires.place in
    c.kept_number.ensures ∙ ap whole_number (sym (cell_in-column table c.args.row c.in-Some.amounts.now.column))
    ∙ ap (λ (p : Option (Option ℕ)). value_in p (cells_at table c.args.row)) (sym place)
