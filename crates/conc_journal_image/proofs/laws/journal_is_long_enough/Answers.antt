use Rattle.conc_journal_image.proofs.Appends.{length-events, length-journal}
use Rattle.conc_journal_image.proofs.laws.journal_is_long_enough.Goals as goal

pub returns : goal.returns
returns c = record {
  bytes = λ label stamps image events j. length-journal label stamps events image j;
  events = λ label stamps image events j. length-events label stamps events image j;
}
