use Rattle.std.proofs.Common.{length}
use Rattle.conc_show_model.proofs.Tabled.{IsRead}
use Rattle.conc_show_model.proofs.table.read_table.Given as goal

abbrev pub invariant-loop-line : goal.invariant-loop-line
invariant-loop-line l = IsRead l.text l.first l.rest l.rows.items l.last

abbrev pub decreases-loop-line : goal.decreases-loop-line
decreases-loop-line l = length l.rest
