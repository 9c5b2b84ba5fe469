-- Before the first event nothing runs, and no set is open.
use Rattle.std.proofs.Common.{◌≡◌, ◌&&◌, Bool, true, false, [], length, None, refl, ◌∙◌}
use Rattle.conc_types.specs.declared.plan.Plan.{Plan}
use Rattle.conc_types.specs.declared.plan.Req.{Req}
use Rattle.conc_base_law.specs.Facts.{is_open, running_place}
use Rattle.conc_base_law.specs.Next.{has_step, is_left_running, runs_somewhere}
use Rattle.conc_base_law.specs.State.{facts_at, state}
use Rattle.conc_base_law.specs.Words.{Has, is_set}
use Rattle.conc_base_law.proofs.FactsAt.{opened-state, place-state}
use Rattle.conc_event_queue.specs.Least.{vacant}
use Rattle.conc_machine_steps.specs.declared.running.Running.{Running}
use Rattle.conc_machine_steps.specs.declared.steps.Steps.{Steps}
use Rattle.conc_machine_steps.specs.Steps.{AreRunning, AreSteps}
use Rattle.conc_machine_steps.proofs.Numbers.{numbers_of-none}

-- no request runs
no_place : (plan : Plan) (r : Req) → Has plan.requests r → (facts_at (state plan []) r).place ≡ None
unfolding running_place
no_place plan r has = place-state plan [] r has

-- no set is open
not_opened : (plan : Plan) (r : Req) → Has plan.requests r → (facts_at (state plan []) r).opened ≡ false
unfolding is_open
not_opened plan r has = opened-state plan [] r has ∙ by (is_set r.item) where
  by : (b : Bool) → (b && false) ≡ false
  by true = refl
  by false = refl

-- so nothing is kept of the requests that run
pub none_run : (plan : Plan) (running : Running) → running.all ≡ vacant (length plan.requests) → running.left ≡ vacant (length plan.requests)
    → AreRunning plan (state plan []) running
unfolding runs_somewhere is_left_running
none_run plan running all left = record {
  all = all ∙ numbers_of-none (runs_somewhere (state plan [])) plan.requests (λ r has. rw (no_place plan r has) refl);
  left = left ∙ numbers_of-none (is_left_running (state plan [])) plan.requests (λ r has. rw (no_place plan r has) refl);
}

-- nor of the open sets
pub none_due : (plan : Plan) (steps : Steps) → steps.due ≡ vacant (length plan.requests) → AreSteps plan (state plan []) steps
unfolding has_step
none_due plan steps due = record {
  due = due ∙ numbers_of-none (has_step plan (state plan [])) plan.requests (λ r has. rw (not_opened plan r has) refl);
}
