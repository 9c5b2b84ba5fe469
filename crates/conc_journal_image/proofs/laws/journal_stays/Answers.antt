use Rattle.conc_journal_image.proofs.Appends.{written-stays}
use Rattle.conc_journal_image.proofs.laws.journal_stays.Goals as goal

pub returns : goal.returns
returns c = λ label stamps old new events j same. written-stays label stamps events old new j same
