use Rattle.conc_base_law.proofs.Running.{runs-occurs}
use Rattle.conc_base_law.proofs.running_has_its_start.Goals as goal

pub returns : goal.returns
returns c = runs-occurs
