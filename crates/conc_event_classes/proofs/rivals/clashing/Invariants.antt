use Rattle.std.proofs.Common.{◌≡◌, take}
use Rattle.std.specs.List.{filter}
use Rattle.conc_event_classes.specs.Rivals.{clashes_at}
use Rattle.conc_event_classes.proofs.rivals.clashing.Given as goal

abbrev pub invariant-loop-class : goal.invariant-loop-class
invariant-loop-class l = l.row.items ≡ filter (clashes_at l.plan l.heads l.claim.head) (take l.class-index l.found)
