use Rattle.std.proofs.Common.{length}
use Rattle.conc_setup.proofs.places.+greatest_shift.Given as goal

abbrev pub decreases-greatest_shift : goal.decreases-greatest_shift
decreases-greatest_shift l = length l.shifts.now
