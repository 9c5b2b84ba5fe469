use Rattle.std.proofs.Common.{length}
use Rattle.conc_event_decisions.proofs.stages.+none_counts.Given as goal

abbrev pub decreases-none_counts : goal.decreases-none_counts
decreases-none_counts l = length l.stages.now
