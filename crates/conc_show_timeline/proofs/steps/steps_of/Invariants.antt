use Rattle.std.proofs.Common.{◌≡◌, ◌++◌, drop, length}
use Rattle.conc_show_timeline.specs.Steps.{steps_from}
use Rattle.conc_show_timeline.proofs.steps.steps_of.Given as goal

abbrev pub invariant-loop-i : goal.invariant-loop-i
invariant-loop-i l =
    l.steps.items ++ steps_from l.request (length l.events) l.i (drop l.i l.events) ≡ steps_from l.request (length l.events) 0 l.events
