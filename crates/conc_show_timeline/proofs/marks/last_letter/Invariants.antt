use Rattle.std.proofs.Common.{◌≡◌, None, drop}
use Rattle.conc_show_timeline.specs.Marks.{last_letter}
use Rattle.conc_show_timeline.proofs.marks.last_letter.Given as goal

abbrev pub invariant-loop-step : goal.invariant-loop-step
invariant-loop-step l = last_letter l.column l.last (drop l.step-index l.steps) ≡ last_letter l.column None l.steps
