use Rattle.std.proofs.Common.{length, ◌-◌}
use Rattle.conc_setup.proofs.second_pass.+again_from.Given as goal

abbrev pub decreases-again_from : goal.decreases-again_from
decreases-again_from g l = length l.items.now - l.place
