use Rattle.conc_journal_image.proofs.Turns.{stamping-keeps}
use Rattle.conc_journal_image.proofs.laws.stamping_keeps.Goals as goal

pub returns : goal.returns
returns c = λ label stamps old new events k number one j there long same. stamping-keeps label stamps old new events k number one j there long same.0 same.1
