use Rattle.conc_base_law.proofs.Finishes.{next_alone-none}
use Rattle.conc_base_law.proofs.alone_finishes.Goals as goal

pub returns : goal.returns
returns c = next_alone-none
