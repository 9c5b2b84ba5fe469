use Rattle.conc_base_law.proofs.SameTable.{say_same}
use Rattle.conc_base_law.proofs.sameness.same_table.Goals as goal

pub returns : goal.returns
returns c = say_same
