-- What is kept before the first event.
use Rattle.std.proofs.Common.{◌≡◌, Bool, false, List, [], ◌∷◌, None, length, map, refl, sym, ◌∙◌, ap}
use Rattle.conc_types.specs.declared.event.PlaceId.{PlaceId}
use Rattle.conc_types.specs.declared.manager.Manager.{Manager}
use Rattle.conc_types.specs.declared.plan.Plan.{Plan}
use Rattle.conc_types.specs.declared.plan.Req.{Req}
use Rattle.conc_base_law.specs.Next.{runs_at}
use Rattle.conc_base_law.specs.Places.{all_places}
use Rattle.conc_base_law.specs.State.{now, state}
use Rattle.conc_base_law.proofs.FirstEvent.{facts_at-none}
use Rattle.conc_event_queue.specs.Least.{vacant}
use Rattle.conc_event_queue.specs.Turns.{turns_of}
use Rattle.conc_machine_starts.specs.declared.starts.Starts.{Starts}
use Rattle.conc_machine_starts.specs.Starts.{AreStarts, is_usable_now, may_start_under, owner_of, running_at}
use Rattle.conc_machine_starts.proofs.Counts.{filter-none}
use Rattle.conc_machine_starts.proofs.Ranges.{map-agree}

-- where none passes, no slot has a key
vacant-turns : (f : Req → Bool) (rs : List Req) → ((r : Req) → f r ≡ false) → vacant (length rs) ≡ turns_of f rs
unfolding vacant turns_of
vacant-turns f [] h = refl
vacant-turns f (r ∷ rs) h = rw (h r) (ap (λ l. None ∷ l) (vacant-turns f rs h))

-- all that is kept
pub starts-none : (plan : Plan) (starts : Starts)
    → starts.queues.items ≡ map (λ (manager : Manager). vacant (length plan.requests)) plan.setup.managers
    → starts.owners ≡ map (owner_of plan) (all_places plan)
    → starts.running ≡ map (λ (place : PlaceId). 0) (all_places plan)
    → starts.usable ≡ map (λ (place : PlaceId). false) (all_places plan)
    → AreStarts plan (state plan []) starts
unfolding may_start_under running_at runs_at is_usable_now state now
starts-none plan starts q o n u = record {
  queues =
      q ∙ map-agree (λ manager. turns_of (may_start_under (state plan []) manager) plan.requests) (λ (manager : Manager). vacant (length plan.requests)) plan.setup.managers
      (λ manager. vacant-turns (may_start_under (state plan []) manager) plan.requests (λ r. rw (facts_at-none plan r) refl));
  owners = o;
  running =
      n ∙ map-agree (running_at plan (state plan [])) (λ (place : PlaceId). 0) (all_places plan)
      (λ place. sym (filter-none (runs_at (state plan []) place) plan.requests (λ r. rw (facts_at-none plan r) refl)));
  usable = u;
}
