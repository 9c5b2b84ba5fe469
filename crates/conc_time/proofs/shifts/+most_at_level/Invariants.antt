use Rattle.std.proofs.Common.{length}
use Rattle.conc_time.proofs.shifts.+most_at_level.Given as goal

abbrev pub decreases-most_at_level : goal.decreases-most_at_level
decreases-most_at_level l = length l.shifts.now
