use Rattle.std.proofs.Common.{length}
use Rattle.conc_time.proofs.shifts.+top_level.Given as goal

abbrev pub decreases-top_level : goal.decreases-top_level
decreases-top_level l = length l.shifts.now
