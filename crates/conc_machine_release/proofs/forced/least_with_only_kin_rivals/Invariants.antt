use Rattle.std.proofs.Common.{◌≡◌, drop}
use Rattle.conc_event_queue.specs.Least.{least, lesser}
use Rattle.conc_event_queue.specs.Turns.{turns_of}
use Rattle.conc_machine_release.specs.Forced.{has_only_kin_rivals}
use Rattle.conc_machine_release.proofs.forced.least_with_only_kin_rivals.Given as goal

abbrev pub invariant-loop-r : goal.invariant-loop-r
invariant-loop-r l =
    lesser l.best (least (turns_of (has_only_kin_rivals l.position.plan.now l.position.classes.now l.position.state.now l.class l.rivals)
    (drop l.r-index l.position.plan.now.requests)))
    ≡ least (turns_of (has_only_kin_rivals l.position.plan.now l.position.classes.now l.position.state.now l.class l.rivals)
    l.position.plan.now.requests)
