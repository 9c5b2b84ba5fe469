use Rattle.conc_history_check.proofs.starts.+one_may_start_among.Given as goal

abbrev pub decreases-one_may_start_among : goal.decreases-one_may_start_among
decreases-one_may_start_among l = l.count
