use Rattle.std.proofs.Common.{◌≡◌, drop}
use Rattle.conc_show_timeline.specs.Marks.{end_column}
use Rattle.conc_show_timeline.proofs.marks.end_column.Given as goal

abbrev pub invariant-loop-step : goal.invariant-loop-step
invariant-loop-step l = end_column l.span (drop l.step-index l.later) ≡ end_column l.span l.later
