use Rattle.conc_run_progress.proofs.Desks.{desk_alive}
use Rattle.conc_run_progress.proofs.laws.no_desk_is_dead.Goals as goal

pub returns : goal.returns
returns c = desk_alive
