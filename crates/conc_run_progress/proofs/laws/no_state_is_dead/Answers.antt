use Rattle.conc_run_progress.proofs.Alive.{alive}
use Rattle.conc_run_progress.proofs.laws.no_state_is_dead.Goals as goal

pub returns : goal.returns
returns c = alive
