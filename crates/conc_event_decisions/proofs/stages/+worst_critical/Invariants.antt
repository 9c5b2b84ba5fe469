use Rattle.std.proofs.Common.{length}
use Rattle.conc_event_decisions.proofs.stages.+worst_critical.Given as goal

abbrev pub decreases-worst_critical : goal.decreases-worst_critical
decreases-worst_critical l = length l.stages.now
