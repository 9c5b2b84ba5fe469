use Rattle.conc_base_law.proofs.Symmetry.{excludes_comm}
use Rattle.conc_base_law.proofs.exclusion_is_symmetric.Goals as goal

pub returns : goal.returns
returns c = excludes_comm
