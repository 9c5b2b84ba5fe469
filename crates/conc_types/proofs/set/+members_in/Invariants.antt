use Rattle.std.proofs.Common.{length}
use Rattle.conc_types.proofs.set.+members_in.Given as goal

abbrev pub decreases-members_in : goal.decreases-members_in
decreases-members_in l = length l.stages.now
