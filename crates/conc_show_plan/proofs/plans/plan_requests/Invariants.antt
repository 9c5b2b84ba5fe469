use Rattle.std.proofs.Common.{◌≤◌}
use Rattle.conc_show_plan.proofs.Told.{IsTold}
use Rattle.conc_show_plan.proofs.plans.plan_requests.Given as goal

abbrev pub invariant-loop-i : goal.invariant-loop-i
invariant-loop-i l = IsTold l.sets l.submits l.planned.items l.i l.taken l.command × (l.taken ≤ l.i)
