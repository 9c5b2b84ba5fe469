use Rattle.conc_show_model.proofs.LastTurns.{Says}
use Rattle.conc_show_model.proofs.turns.turn_of.Given as goal

abbrev pub invariant-loop-i : goal.invariant-loop-i
invariant-loop-i l = Says l.request l.i l.events l.later.turn l.later.begun l.later.end
