use Rattle.std.proofs.Common.{sym, ◌∙◌}
use Rattle.conc_event_reach.proofs.Widening.{widened_none, widened_some}
use Rattle.conc_event_reach.proofs.spans.widen.Goals as goal

pub returns-in-Some : goal.returns-in-Some
returns-in-Some c =
    rw c.set.ensures
    (widened_some _ _ _ c.in-Some.span _ (rw c.as_slice.ensures at (sym c.numbered.ensures ∙ sym c.in-Some.ensures)) (rw c.of.ensures at c.cover.ensures))

pub returns-in_default : goal.returns-in_default
returns-in_default c = widened_none _ _ _ (rw c.as_slice.ensures at (sym c.numbered.ensures ∙ sym c.in_default.ensures))
