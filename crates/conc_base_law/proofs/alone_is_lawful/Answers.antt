use Rattle.conc_base_law.proofs.AloneHistory.{alone_lawful}
use Rattle.conc_base_law.proofs.alone_is_lawful.Goals as goal

pub returns : goal.returns
returns c = alone_lawful
