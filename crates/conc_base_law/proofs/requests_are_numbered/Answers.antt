use Rattle.conc_base_law.proofs.Numbering.{numbered_plan}
use Rattle.conc_base_law.proofs.requests_are_numbered.Goals as goal

pub returns : goal.returns
returns c = λ plan r has. numbered_plan plan r has
