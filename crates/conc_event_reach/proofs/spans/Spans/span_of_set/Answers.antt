use Rattle.conc_event_reach.proofs.Around.{around_cover, around_members}
use Rattle.conc_event_reach.proofs.spans.Spans.span_of_set.Goals as goal

pub returns : goal.returns
returns c = λ are. around_cover _ _ _ _ _ _ c.span_of_request.ensures (rw c.span_of_members.ensures (around_members _ _ c.args.set are)) c.cover.ensures
