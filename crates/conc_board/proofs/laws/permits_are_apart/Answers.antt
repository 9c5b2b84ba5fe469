use Rattle.conc_board.proofs.PermitsHeld.{have_apart}
use Rattle.conc_board.proofs.laws.permits_are_apart.Goals as goal

pub returns : goal.returns
returns c = λ plan s k i j. have_apart plan s k i j
