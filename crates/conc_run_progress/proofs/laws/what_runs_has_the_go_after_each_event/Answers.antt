use Rattle.conc_run_progress.proofs.RunsGo.{runs_after}
use Rattle.conc_run_progress.proofs.laws.what_runs_has_the_go_after_each_event.Goals as goal

pub returns : goal.returns
returns c = runs_after
