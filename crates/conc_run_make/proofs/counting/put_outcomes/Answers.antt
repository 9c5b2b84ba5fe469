use Rattle.conc_run_make.specs.Summary.{outcome_lines}
use Rattle.conc_run_make.proofs.Joined.{five-joined}
use Rattle.conc_run_make.proofs.counting.put_outcomes.Goals as goal

pub returns : goal.returns
unfolding outcome_lines
returns c =
    five-joined _ _ _ _ _ _ _ _ _ _ _ c.in_ok-put_outcome.ensures c.in_ok-put_outcome-2.ensures c.in_ok-put_outcome-3.ensures c.in_ok-put_outcome-4.ensures c.in_ok-put_outcome-5.ensures
