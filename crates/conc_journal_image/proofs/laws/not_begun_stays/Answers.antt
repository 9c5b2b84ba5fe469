use Rattle.conc_journal_image.proofs.Beginning.{not_begun-stays}
use Rattle.conc_journal_image.proofs.laws.not_begun_stays.Goals as goal

pub returns : goal.returns
returns c = λ old new h long same. not_begun-stays old new h long same
