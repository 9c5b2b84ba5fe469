use Rattle.std.proofs.Common.{◌<◌}
use Rattle.conc_event_classes.specs.Classes.{class_at}
use Rattle.conc_history_check.specs.Lets.{IsLeastTurn}
use Rattle.conc_history_check.proofs.lets.least_turn.Given as goal

-- the best turn is the least of the classes so far
abbrev pub invariant-loop-class : goal.invariant-loop-class
invariant-loop-class l = IsLeastTurn l.position.plan.now l.position.state.now (λ q. class_at l.position.prepared.now.classes q < l.class) l.best
