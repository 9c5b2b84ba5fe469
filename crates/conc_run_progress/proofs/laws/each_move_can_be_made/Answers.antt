use Rattle.conc_run_progress.proofs.Made.{hand_made, lead_made}
use Rattle.conc_run_progress.proofs.laws.each_move_can_be_made.Goals as goal

pub returns-clause-lead : goal.returns-clause-lead
returns-clause-lead c = lead_made

pub returns-clause-hand : goal.returns-clause-hand
returns-clause-hand c = hand_made
