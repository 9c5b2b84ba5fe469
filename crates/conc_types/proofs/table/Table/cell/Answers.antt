use Rattle.std.proofs.Common.{◌≡◌, ◌<◌, ◌+◌, ◌*◌, ◌/◌, ◌∙◌, sym, refl, ap, [], get_or, length, Some, arith}
use Rattle.std.specs.Prelude.{slice_get}
use Rattle.std.proofs.lemmas.Option.{get_or_from_slice_get, slice_get-get_or}
use Rattle.conc_types.specs.Pieces.{Content, rows_of}
use Rattle.conc_types.proofs.Pieces.{below-pieces, get_or-pieces, is_some-points, length-rows}
use Rattle.conc_types.proofs.table.Table.cell.Goals as goal

pub prove-unreachable-requires : goal.prove-unreachable-requires
prove-unreachable-requires c =
    let inside = c.self.inside in
    let seen : length (rows_of (length inside.columns) inside.cells) ≡ length c.args.self.now.rows = ap (λ (t : Content). length t.rows) c.self.view_is in
    let count : c.len.result / c.len-2.result ≡ length inside.cells / length inside.columns = rw (c.len.ensures, c.len-2.ensures) refl in
    omega (arith, length-rows (length inside.columns) inside.cells)

pub unwrap-requires : goal.unwrap-requires
unwrap-requires c =
    let inside = c.self.inside in
    let place = c.args.row * c.len-3.result + c.args.column in
    let wide : length c.args.self.now.columns ≡ length inside.columns = ap (λ (t : Content). length t.columns) (sym c.self.view_is) in
    let row : c.args.row < length inside.cells / length inside.columns = rw (← c.len.ensures, ← c.len-2.ensures) c.if-prove.false in
    let column : c.args.column < length inside.columns = omega arith in
    let below : place < length inside.cells = rw c.len-3.ensures (below-pieces (length inside.cells) (length inside.columns) c.args.row c.args.column row column) in
    is_some-points _ c.get.result (get_or inside.cells place []) (c.get.ensures ∙ slice_get-get_or inside.cells place [] below)

pub returns : goal.returns
returns c =
    let inside = c.self.inside in
    let place = c.args.row * c.len-3.result + c.args.column in
    let wide : length c.args.self.now.columns ≡ length inside.columns = ap (λ (t : Content). length t.columns) (sym c.self.view_is) in
    let row : c.args.row < length inside.cells / length inside.columns = rw (← c.len.ensures, ← c.len-2.ensures) c.if-prove.false in
    let column : c.args.column < length inside.columns = omega arith in
    let there : slice_get inside.cells place ≡ Some c.unwrap.result.now = sym (rw c.unwrap.ensures at c.get.ensures) in
    let found : get_or inside.cells place [] ≡ c.unwrap.result.now = get_or_from_slice_get inside.cells place c.unwrap.result.now [] there in
    let same : get_or (get_or (rows_of (length inside.columns) inside.cells) c.args.row []) c.args.column [] ≡ get_or inside.cells place [] =
    rw c.len-3.ensures (get_or-pieces (length inside.cells / length inside.columns) (length inside.columns) inside.cells c.args.row c.args.column [] row column) in
    rw (← c.self.view_is) (sym (same ∙ found))
