use Rattle.std.proofs.Common.{◌≡◌, take, map}
use Rattle.conc_base_law.specs.Next.{can_run}
use Rattle.conc_history_check.proofs.prepared.all_runnable.Given as goal

abbrev pub invariant-loop-r : goal.invariant-loop-r
invariant-loop-r l = l.all.items ≡ map (can_run l.plan) (take l.r-index l.plan.requests)
