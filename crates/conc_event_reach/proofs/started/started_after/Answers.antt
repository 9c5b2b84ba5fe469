use Rattle.std.proofs.Common.{refl}
use Rattle.conc_event_reach.proofs.InLife.{started-more, started-none, started-same}
use Rattle.conc_event_reach.proofs.started.started_after.Goals as goal

pub returns-in-Started : goal.returns-in-Started
returns-in-Started c = λ named facts are.
    started-more _ named _ _ _ facts _ _ _ c.in-Started.is are c.span_of_request.ensures c.cover.ensures

pub returns-in-Resume : goal.returns-in-Resume
returns-in-Resume c = λ named facts are. started-none _ named _ facts _ c.in-Resume.is refl

pub returns-in_default : goal.returns-in_default
returns-in_default c = λ named facts are. started-same _ named _ facts _ c.in_default.not-Started are
