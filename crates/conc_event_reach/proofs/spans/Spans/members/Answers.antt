use Rattle.conc_event_reach.proofs.Members.{all_members, are_members}
use Rattle.conc_event_reach.proofs.spans.Spans.members.Goals as goal

pub returns-in-Some : goal.returns-in-Some
returns-in-Some c = λ are.
    are_members _ _ _ _ _ are c.span_of_members-span.ensures c.in-Some.ensures.lookup.0.0
    (rw c.as_slice-requests.ensures at c.in-Some.ensures.lookup.0.2)

pub returns-in-None : goal.returns-in-None
returns-in-None c = λ are. all_members _ _ _ c.as_slice-requests.ensures
