use Rattle.std.proofs.Common.{drop}
use Rattle.conc_history_lines.proofs.Tables.{AreStarts}
use Rattle.conc_history_lines.proofs.starts.starts_of.Given as goal

abbrev pub invariant-loop-manager : goal.invariant-loop-manager
invariant-loop-manager l =
    AreStarts l.plan.setup.managers (drop l.manager-index l.plan.setup.managers) l.first l.starts.items
