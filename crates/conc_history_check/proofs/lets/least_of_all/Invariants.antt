use Rattle.std.proofs.Common.{◌≡◌, drop}
use Rattle.conc_base_law.specs.Next.{may_let}
use Rattle.conc_event_queue.specs.Least.{least, lesser}
use Rattle.conc_event_queue.specs.Turns.{turns_of}
use Rattle.conc_history_check.proofs.lets.least_of_all.Given as goal

-- the least turn is the best one so far, or a lesser one of those that follow
abbrev pub invariant-loop-i : goal.invariant-loop-i
invariant-loop-i l =
    lesser l.best (least (turns_of (may_let l.position.plan.now l.position.state.now) (drop l.i l.position.plan.now.requests)))
    ≡ least (turns_of (may_let l.position.plan.now l.position.state.now) l.position.plan.now.requests)
