use Rattle.conc_run_progress.proofs.RunsGo.{runs_called, runs_first, runs_kept, runs_same}
use Rattle.conc_run_progress.proofs.laws.what_runs_has_the_go_between_events.Goals as goal

pub returns-clause-beginning : goal.returns-clause-beginning
returns-clause-beginning c = runs_first

pub returns-clause-call : goal.returns-clause-call
returns-clause-call c = λ plan past kept r old new same stays runs. runs_called plan past old new kept r same stays runs

pub returns-clause-same : goal.returns-clause-same
returns-clause-same c = λ plan past kept old new same runs. runs_same plan past old new kept same runs

pub returns-clause-kept : goal.returns-clause-kept
returns-clause-kept c = λ plan past r e old new same one runs. runs_kept plan past old new r e same one runs
