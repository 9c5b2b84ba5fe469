use Rattle.conc_script.proofs.HeaderRecord.{no_header}
use Rattle.conc_script.proofs.script.is_header.Goals as goal

pub returns-in-None : goal.returns-in-None
returns-in-None c = no_header _ c.in-None.ensures
