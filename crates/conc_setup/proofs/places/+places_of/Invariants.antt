use Rattle.std.proofs.Common.{length}
use Rattle.conc_setup.proofs.places.+places_of.Given as goal

abbrev pub decreases-places_of : goal.decreases-places_of
decreases-places_of l = length l.managers.now
