use Rattle.std.proofs.Common.{◌≡◌, drop}
use Rattle.conc_machine_release.specs.Starts.{next_from}
use Rattle.conc_machine_release.proofs.starts.next_start.Given as goal

abbrev pub invariant-loop-r : goal.invariant-loop-r
invariant-loop-r l = next_from l.now l.best (drop l.r-index l.plan.requests)
    ≡ next_from l.now 18446744073709551615 l.plan.requests
