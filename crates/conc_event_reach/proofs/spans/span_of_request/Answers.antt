use Rattle.std.proofs.Common.{refl, arith}
use Rattle.conc_event_reach.proofs.Around.{around_past, around_request, around_zero}
use Rattle.conc_event_reach.proofs.spans.span_of_request.Goals as goal
use Rattle.conc_event_reach.proofs.spans.span_of_request.Goals.{then-number-eq0-via-then-number-eq0, then-number-eq0-via-else-number-eq0+then-number-len}

pub returns-then-number-eq0 : goal.returns-then-number-eq0
returns-then-number-eq0 c = elim c.then-number-eq0.branch [
  | then-number-eq0-via-then-number-eq0 w ↦ around_zero _ _ _ (omega arith) refl
  | then-number-eq0-via-else-number-eq0+then-number-len w ↦ around_past _ _ _ (omega (arith, w.len.ensures)) refl
]

pub returns : goal.returns
returns c = rw c.of.ensures (around_request _ _ _ (omega arith) (omega arith) (omega (arith, c.len.ensures)))
