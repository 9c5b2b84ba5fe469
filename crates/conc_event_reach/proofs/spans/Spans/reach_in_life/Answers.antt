use Rattle.conc_event_reach.proofs.InLife.{resume-leaves}
use Rattle.conc_event_reach.proofs.spans.Spans.reach_in_life.Goals as goal

pub returns-in-Resume-clause-leaves : goal.returns-in-Resume-clause-leaves
returns-in-Resume-clause-leaves c = λ facts spans are. resume-leaves _ _ facts _ c.in-Resume.is are
