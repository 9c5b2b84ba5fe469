use Rattle.std.proofs.Common.{◌≡◌, ◌++◌, None, drop}
use Rattle.conc_show_model.specs.Turns.{moments_from}
use Rattle.conc_show_model.proofs.turns.moments.Given as goal

abbrev pub invariant-loop-event : goal.invariant-loop-event
invariant-loop-event l = moments_from None l.events ≡ l.moments.items ++ moments_from l.now (drop l.event-index l.events)
