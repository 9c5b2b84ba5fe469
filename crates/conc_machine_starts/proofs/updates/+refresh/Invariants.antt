use Rattle.std.proofs.Common.{length}
use Rattle.conc_machine_starts.proofs.updates.+refresh.Given as goal

abbrev pub decreases-refresh : goal.decreases-refresh
decreases-refresh l = length l.managers.now
