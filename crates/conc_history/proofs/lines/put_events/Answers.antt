use Rattle.std.proofs.Common.{arith}
use Rattle.conc_base_law.specs.Text.{event_words, events_text, line_of}
use Rattle.conc_history.proofs.Joined.{joined_more}
use Rattle.conc_history.proofs.lines.put_events.Goals as goal

pub loop-event-preserved : goal.loop-event-preserved
unfolding events_text
loop-event-preserved c =
    joined_more (λ e. line_of (event_words c.args.plan.now e)) _ _ _ c.args.events.now c.loop-event.event-index _ (omega arith) c.event-item.is c.loop-event.invariant c.in_ok-put_event.ensures
