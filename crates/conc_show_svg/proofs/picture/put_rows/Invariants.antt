use Rattle.std.proofs.Common.{◌≡◌, ◌++◌, drop}
use Rattle.conc_show_svg.specs.Rows.{row_frame}
use Rattle.conc_show_svg.specs.Picture.{each_from}
use Rattle.conc_show_svg.proofs.picture.put_rows.Given as goal

abbrev pub invariant-loop-i : goal.invariant-loop-i
invariant-loop-i l =
    l.out.items ++ each_from (row_frame l.planned l.lanes) l.i (drop l.i l.rows) ≡ l.fn.out.items ++ each_from (row_frame l.planned l.lanes) 0 l.rows
