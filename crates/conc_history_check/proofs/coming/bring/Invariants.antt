use Rattle.conc_history_check.proofs.Brought.{Brought, keyed}
use Rattle.conc_history_check.proofs.coming.bring.Given as goal

-- those that are taken out have come and are put anew
abbrev pub invariant-loop-r : goal.invariant-loop-r
invariant-loop-r l = Brought l.plan l.prepared.classes l.fn._before l.state l.fn.marks l.coming l.marks

abbrev pub decreases-loop-r : goal.decreases-loop-r
decreases-loop-r l = keyed l.coming
