use Rattle.conc_journal_image.proofs.Unique.{spelled-has_record}
use Rattle.conc_journal_image.proofs.laws.spelled_has_record.Goals as goal

pub returns : goal.returns
returns c = λ bytes e. spelled-has_record bytes e
