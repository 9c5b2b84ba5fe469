use Rattle.std.proofs.Common.{◌≡◌, take}
use Rattle.conc_event_classes.specs.Rivals.{rows_of}
use Rattle.conc_event_classes.proofs.rivals.all_rows.Given as goal

abbrev pub invariant-loop-head : goal.invariant-loop-head
invariant-loop-head l = l.rows.items ≡ rows_of l.plan l.heads (take l.head-index l.heads)
