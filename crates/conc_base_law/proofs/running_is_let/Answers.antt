use Rattle.std.proofs.Common.{reverse}
use Rattle.conc_base_law.proofs.RunningIsLet.{runs_let}
use Rattle.conc_base_law.proofs.running_is_let.Goals as goal

pub returns : goal.returns
returns c = λ plan history r has lawful run. runs_let plan (reverse history) r has lawful run
