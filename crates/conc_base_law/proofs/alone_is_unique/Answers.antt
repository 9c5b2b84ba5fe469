use Rattle.conc_base_law.proofs.AloneUnique.{alone_unique}
use Rattle.conc_base_law.proofs.alone_is_unique.Goals as goal

pub returns : goal.returns
returns c = alone_unique
