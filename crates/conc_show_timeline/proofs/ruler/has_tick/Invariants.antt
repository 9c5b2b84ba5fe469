use Rattle.std.proofs.Common.{◌≡◌, drop, length}
use Rattle.conc_show_timeline.specs.Timeline.{has_tick}
use Rattle.conc_show_timeline.proofs.ruler.has_tick.Given as goal

abbrev pub invariant-loop-i : goal.invariant-loop-i
invariant-loop-i l = has_tick l.column (length l.events) l.i (drop l.i l.events) ≡ has_tick l.column (length l.events) 0 l.events
