use Rattle.conc_base_law.proofs.Completed.{start_not_completed}
use Rattle.conc_base_law.proofs.no_start_after_completion.Goals as goal

pub returns : goal.returns
returns c = λ plan before r place has h. start_not_completed plan before r place has h
