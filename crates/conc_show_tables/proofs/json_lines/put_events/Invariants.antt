use Rattle.std.proofs.Common.{◌≡◌, ◌+◌, ◌++◌, drop}
use Rattle.conc_show_tables.specs.Json.{json_events}
use Rattle.conc_show_tables.proofs.json_lines.put_events.Given as goal

abbrev pub invariant-loop-i : goal.invariant-loop-i
invariant-loop-i l = l.initial.out.items ++ json_events 1 l.events ≡ l.out.items ++ json_events (l.i + 1) (drop l.i l.events)
