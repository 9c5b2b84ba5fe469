use Rattle.conc_base_law.proofs.Named.{requests_same}
use Rattle.conc_base_law.proofs.growth.named_requests_are_kept.Goals as goal

pub returns : goal.returns
returns c = requests_same
