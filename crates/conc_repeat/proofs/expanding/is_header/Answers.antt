use Rattle.conc_repeat.proofs.HeaderRecord.{no_header}
use Rattle.conc_repeat.proofs.expanding.is_header.Goals as goal

pub returns-in-None : goal.returns-in-None
returns-in-None c = no_header _ c.in-None.ensures
