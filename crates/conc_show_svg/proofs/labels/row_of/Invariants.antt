use Rattle.std.proofs.Common.{◌≡◌, ◌+◌, drop}
use Rattle.conc_show_svg.specs.Labels.{row_of}
use Rattle.conc_show_svg.proofs.labels.row_of.Given as goal

abbrev pub invariant-loop-i : goal.invariant-loop-i
invariant-loop-i l = row_of (drop l.i l.rows) l.request + l.i ≡ row_of l.rows l.request
