use Rattle.std.proofs.Common.{◌≡◌, drop}
use Rattle.std.specs.List.{list_any}
use Rattle.conc_base_law.specs.Next.{runs_at}
use Rattle.conc_history_check.proofs.starts.is_taken.Given as goal

-- no request so far does
abbrev pub invariant-loop-i : goal.invariant-loop-i
invariant-loop-i l = list_any (runs_at l.position.state.now l.place) (drop l.i l.position.plan.now.requests)
    ≡ list_any (runs_at l.position.state.now l.place) l.position.plan.now.requests
