-- What is kept where the same facts stand.
use Rattle.std.proofs.Common.{◌≡◌, map, not, ◌&&◌, ◌==◌, length, refl, sym, ◌∙◌, ap}
use Rattle.std.specs.Prelude.{unwrap_or}
use Rattle.std.specs.Bool.{then_some}
use Rattle.std.specs.List.{filter}
use Rattle.conc_types.specs.declared.facts.Facts.{Facts}
use Rattle.conc_types.specs.declared.facts.State.{State}
use Rattle.conc_types.specs.declared.plan.Plan.{Plan}
use Rattle.conc_types.specs.declared.plan.Req.{Req}
use Rattle.conc_types.specs.Words.{numbered, some_and}
use Rattle.conc_base_law.specs.Managers.{admits}
use Rattle.conc_base_law.specs.Next.{runs_at}
use Rattle.conc_base_law.specs.Places.{all_places, is_usable}
use Rattle.conc_base_law.specs.State.{facts_at, is_running, no_facts}
use Rattle.conc_event_queue.specs.Turns.{turn, turns_of}
use Rattle.conc_event_queue.specs.Written.{IsAlike}
use Rattle.conc_machine_starts.specs.declared.starts.Starts.{Starts}
use Rattle.conc_machine_starts.specs.Starts.{AreStarts, is_usable_now, may_start_under, running_at}

-- the facts of each request are the same
same-facts_at : (before after : State) → after.facts ≡ before.facts → facts_at after ≡ facts_at before
unfolding facts_at
same-facts_at before after e = ap (λ facts. λ (r : Req). unwrap_or (numbered facts r.number.number) no_facts) e

-- at another moment, where the flags of the places are those of this one
pub starts-tick : (plan : Plan) (before after : State) (starts next : Starts) → after.facts ≡ before.facts
    → next.queues.items ≡ starts.queues.items → next.owners ≡ starts.owners → next.running ≡ starts.running
    → next.usable ≡ map (is_usable_now plan after) (all_places plan) → AreStarts plan before starts → AreStarts plan after next
unfolding turns_of may_start_under running_at runs_at
starts-tick plan before after starts next e q o n u are =
    let same : facts_at before ≡ facts_at after = sym (same-facts_at before after e) in
    record {
      queues =
          q ∙ are.queues
          ∙ ap (λ (at : Req → Facts). map (λ manager. map (λ r. then_some ((at r).let_out && (not (is_running (at r)) && admits manager r)) (turn r)) plan.requests) plan.setup.managers) same;
      owners = o ∙ are.owners;
      running =
          n ∙ are.running
          ∙ ap (λ (at : Req → Facts). map (λ place. length (filter (λ r. some_and (λ p. p.index == place.index) (at r).place) plan.requests)) (all_places plan)) same;
      usable = u;
    }

-- where the same facts and the same moment stand, the same is kept
pub AreStarts-alike : (plan : Plan) (before after : State) (starts : Starts) → IsAlike before after → AreStarts plan before starts → AreStarts plan after starts
unfolding is_usable_now
AreStarts-alike plan before after starts alike are =
    starts-tick plan before after starts starts alike.facts refl refl refl
    (are.usable ∙ ap (λ time. map (λ place. some_and (λ t. is_usable plan t place) time) (all_places plan)) (sym alike.time)) are
