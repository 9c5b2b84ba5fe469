use Rattle.std.proofs.Common.{◌≡◌, ◌++◌, None, drop}
use Rattle.conc_show_svg.specs.Moments.{moments_from}
use Rattle.conc_show_svg.proofs.moments.moments_of.Given as goal

abbrev pub invariant-loop-event : goal.invariant-loop-event
invariant-loop-event l = l.moments.items ++ moments_from l.last (drop l.event-index l.events) ≡ moments_from None l.events
