use Rattle.std.proofs.Common.{◌≤◌, ◌∙◌, sym, ap, refl, length, [], arith}
use Rattle.std.proofs.lemmas.Option.{slice_get_past, unwrap_or-slice_get}
use Rattle.conc_reports.proofs.Cells.{length-row}
use Rattle.conc_reports.specs.Columns.{cells_at}
use Rattle.conc_reports.proofs.columns.cell_at.Goals as goal

pub returns-then-column-columns : goal.returns-then-column-columns
returns-then-column-columns c =
    rw c.in-Some.is (c.cell.ensures ∙ sym (unwrap_or-slice_get (cells_at c.args.table.now c.args.row) c.in-Some.column []))

pub returns-else-column-columns : goal.returns-else-column-columns
returns-else-column-columns c =
    let table = c.args.table.now in
    let wide = length-row (length table.columns) table.rows c.args.row table.even c.requires in
    let past : length (cells_at table c.args.row) ≤ c.in-Some.column = omega (arith, ap length c.columns.ensures) in
    rw (c.in-Some.is, slice_get_past (cells_at table c.args.row) c.in-Some.column past) refl
