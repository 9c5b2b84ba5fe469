use Rattle.std.proofs.Common.{length}
use Rattle.conc_time.proofs.managers.+place_among.Given as goal

abbrev pub decreases-place_among : goal.decreases-place_among
decreases-place_among l = length l.managers.now
