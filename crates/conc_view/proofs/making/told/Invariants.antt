use Rattle.std.proofs.Common.{◌≡◌, take}
use Rattle.conc_view.proofs.making.told.Given as goal

abbrev pub invariant-loop-event : goal.invariant-loop-event
invariant-loop-event g l = l.reached ≡ take l.event-index l.events
