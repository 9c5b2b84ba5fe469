use Rattle.conc_board.proofs.Courses.{marks}
use Rattle.conc_board.proofs.laws.marks_stay.Goals as goal

pub returns : goal.returns
returns c = λ lead_state lead_states c e. marks lead_state lead_states c e
