use Rattle.conc_journal_image.proofs.Unique.{spelled-same}
use Rattle.conc_journal_image.proofs.laws.spelling_is_unique.Goals as goal

pub returns : goal.returns
returns c = λ one another e stamp a b h k. spelled-same one another e stamp a b h k
