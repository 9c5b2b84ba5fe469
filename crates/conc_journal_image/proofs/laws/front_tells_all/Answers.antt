use Rattle.conc_journal_image.proofs.Fronts.{found_in-front, has_header-front, is_not_begun-front, label_in-front}
use Rattle.conc_journal_image.proofs.Stamps.{stamps_in-front}
use Rattle.conc_journal_image.proofs.laws.front_tells_all.Goals as goal

pub returns : goal.returns
returns c = record {
  begun = λ image n h. is_not_begun-front n image h;
  header = λ image n h. has_header-front n image h;
  label = λ image n h. label_in-front n image h;
  found = λ image n h. found_in-front n image h;
  stamps = λ image n h. stamps_in-front n image h;
}
