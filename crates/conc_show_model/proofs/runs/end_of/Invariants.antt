use Rattle.std.proofs.Common.{◌≡◌, drop}
use Rattle.conc_show_model.specs.Runs.{first_end}
use Rattle.conc_show_model.proofs.runs.end_of.Given as goal

abbrev pub invariant-loop-i : goal.invariant-loop-i
invariant-loop-i l = first_end l.request l.from (drop l.from l.events) ≡ first_end l.request l.i (drop l.i l.events)
