use Rattle.std.proofs.Common.{length, ◌-◌}
use Rattle.conc_setup.proofs.second_pass.+set_again_from.Given as goal

abbrev pub decreases-set_again_from : goal.decreases-set_again_from
decreases-set_again_from l = length l.sets.now - l.place
