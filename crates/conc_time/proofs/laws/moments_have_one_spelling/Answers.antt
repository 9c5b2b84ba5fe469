use Rattle.conc_time.proofs.Spellings.{spelled_once}
use Rattle.conc_time.proofs.laws.moments_have_one_spelling.Goals as goal

pub returns : goal.returns
returns c = spelled_once
