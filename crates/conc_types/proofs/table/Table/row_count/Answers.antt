use Rattle.std.proofs.Common.{◌≡◌, refl, ap, length}
use Rattle.conc_types.specs.Pieces.{Content, rows_of}
use Rattle.conc_types.proofs.Pieces.{length-rows}
use Rattle.conc_types.proofs.table.Table.row_count.Goals as goal

pub returns : goal.returns
returns c =
    let inside = c.self.inside in
    let seen : length (rows_of (length inside.columns) inside.cells) ≡ length c.args.self.now.rows = ap (λ (t : Content). length t.rows) c.self.view_is in
    rw (← seen, length-rows (length inside.columns) inside.cells, c.len.ensures, c.len-2.ensures) refl
