use Rattle.std.proofs.Common.{◌≡◌, drop}
use Rattle.conc_show_svg.specs.Labels.{name_of}
use Rattle.conc_show_svg.proofs.labels.name_of.Given as goal

abbrev pub invariant-loop-row : goal.invariant-loop-row
invariant-loop-row l = name_of (drop l.row-index l.rows) l.request ≡ name_of l.rows l.request
