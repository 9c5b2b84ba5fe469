use Rattle.conc_run_progress.proofs.Falls.{none_falls}
use Rattle.conc_run_progress.proofs.HandLess.{hand_move_less}
use Rattle.conc_run_progress.proofs.LeadLess.{done_less, lead_move_less}
use Rattle.conc_run_progress.proofs.Level.{close_level, stop_level}
use Rattle.conc_run_progress.proofs.Lighter.{measure_kept}
use Rattle.conc_run_progress.proofs.Logged.{logging_less}
use Rattle.conc_run_progress.proofs.laws.each_step_makes_the_measure_less.Goals as goal

pub returns-clause-log : goal.returns-clause-log
returns-clause-log c = logging_less

pub returns-clause-lead : goal.returns-clause-lead
returns-clause-lead c = lead_move_less

pub returns-clause-hand : goal.returns-clause-hand
returns-clause-hand c = hand_move_less

pub returns-clause-ends : goal.returns-clause-ends
returns-clause-ends c = none_falls

pub returns-clause-done : goal.returns-clause-done
returns-clause-done c = done_less

pub returns-clause-still : goal.returns-clause-still
returns-clause-still c = measure_kept

pub returns-clause-stop : goal.returns-clause-stop
returns-clause-stop c = stop_level

pub returns-clause-close : goal.returns-clause-close
returns-clause-close c = close_level
