use Rattle.std.proofs.Common.{◌≡◌, drop}
use Rattle.std.specs.List.{list_any}
use Rattle.conc_base_law.specs.Next.{may_start}
use Rattle.conc_history_check.proofs.starts.one_may_start.Given as goal

-- no request so far may
abbrev pub invariant-loop-i : goal.invariant-loop-i
invariant-loop-i l = list_any (λ r. may_start l.position.plan.now l.position.state.now r l.place) (drop l.i l.position.plan.now.requests)
    ≡ list_any (λ r. may_start l.position.plan.now l.position.state.now r l.place) l.position.plan.now.requests
