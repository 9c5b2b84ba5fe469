use Rattle.conc_journal.specs.Opens.{broken_of, events_of}
use Rattle.conc_run.proofs.Next.{not-bad, not-closed, not-other, not-other_script}
use Rattle.conc_run.proofs.laws.what_is_good_is_not_refused.Goals as goal

pub returns : goal.returns
returns c plan digests len image is = record {
  opens = not-closed plan digests image is.0;
  own = λ found given. not-other plan digests found given image is.0.own;
  same_script = λ command found given. not-other_script plan digests command found given image is.0.own;
  good = λ number. not-bad plan len (events_of image) (broken_of image) number is.1;
}
