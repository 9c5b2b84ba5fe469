use Rattle.std.proofs.Common.{length}
use Rattle.conc_pool_lanes.proofs.each.+add_takers.Given as goal

abbrev pub decreases-add_takers : goal.decreases-add_takers
decreases-add_takers l = length l.lanes.now
