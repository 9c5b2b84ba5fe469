use Rattle.std.proofs.Common.{length}
use Rattle.conc_time.proofs.managers.+count.Given as goal

abbrev pub decreases-count : goal.decreases-count
decreases-count l = length l.managers.now
