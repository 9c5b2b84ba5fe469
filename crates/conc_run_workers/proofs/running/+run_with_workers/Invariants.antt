use Rattle.conc_run_workers.proofs.running.+run_with_workers.Given as goal

abbrev pub decreases-run_with_workers : goal.decreases-run_with_workers
decreases-run_with_workers g l = l.threads
