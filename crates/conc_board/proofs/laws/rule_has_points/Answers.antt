use Rattle.conc_board.proofs.PointsHold.{points}
use Rattle.conc_board.proofs.laws.rule_has_points.Goals as goal

pub returns : goal.returns
returns c = λ plan s k. points plan s k
