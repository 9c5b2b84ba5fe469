use Rattle.conc_board.proofs.PointsHold.{no_finds}
use Rattle.conc_board.proofs.laws.rule_reads_no_finds.Goals as goal

pub returns : goal.returns
returns c = λ plan s others k differ. no_finds plan s others k differ
