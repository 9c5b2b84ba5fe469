use Rattle.conc_journal_image.proofs.Turns.{basing-keeps}
use Rattle.conc_journal_image.proofs.laws.basing_keeps.Goals as goal

pub returns : goal.returns
returns c = λ label stamps old new events one j long same. basing-keeps label stamps old new events one j long same.0 same.1
