use Rattle.std.proofs.Common.{◌≡◌, ◌++◌, drop}
use Rattle.conc_show_model.specs.Runs.{runs_from}
use Rattle.conc_show_model.proofs.runs.runs_of.Given as goal

abbrev pub invariant-loop-i : goal.invariant-loop-i
invariant-loop-i l = runs_from 0 l.events ≡ l.runs.items ++ runs_from l.i (drop l.i l.events)
