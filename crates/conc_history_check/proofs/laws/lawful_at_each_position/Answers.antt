use Rattle.conc_history_check.proofs.EachPosition.{lawful_positions, positions_lawful}
use Rattle.conc_history_check.proofs.laws.lawful_at_each_position.Goals as goal

pub returns : goal.returns
returns c = λ plan readings history. (lawful_positions plan readings history, positions_lawful plan readings history)
