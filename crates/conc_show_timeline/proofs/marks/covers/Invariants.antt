use Rattle.std.proofs.Common.{◌≡◌, drop}
use Rattle.conc_show_timeline.specs.Marks.{covers}
use Rattle.conc_show_timeline.proofs.marks.covers.Given as goal

abbrev pub invariant-loop-i : goal.invariant-loop-i
invariant-loop-i l = covers l.span l.column (drop l.i l.steps) ≡ covers l.span l.column l.steps
