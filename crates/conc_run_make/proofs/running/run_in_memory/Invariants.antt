use Rattle.conc_run_make.proofs.Underway.{IsUnderway, left_in}
use Rattle.conc_run_make.proofs.running.run_in_memory.Given as goal

abbrev pub invariant-loop-history : goal.invariant-loop-history
invariant-loop-history l = IsUnderway l.generated.plan l.generated.readings l.machine l.history.items

abbrev pub decreases-loop-history : goal.decreases-loop-history
decreases-loop-history l = left_in l.generated.plan l.generated.readings l.history.items
