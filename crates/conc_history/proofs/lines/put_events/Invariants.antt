use Rattle.std.proofs.Common.{◌≡◌, ◌++◌, take}
use Rattle.conc_base_law.specs.Text.{events_text}
use Rattle.conc_history.proofs.lines.put_events.Given as goal

abbrev pub invariant-loop-event : goal.invariant-loop-event
invariant-loop-event l =
    l.out.items ≡ l.fn.out.items ++ events_text l.plan (take l.event-index l.events)
