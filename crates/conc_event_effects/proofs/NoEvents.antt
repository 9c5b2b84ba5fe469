-- The state after no events.
use Rattle.std.proofs.Common.{◌≡◌, ℕ, ◌+◌, Bool, true, false, ◌&&◌, List, [], ◌∷◌, map, None, Some, refl, ◌∙◌, ap}
use Rattle.std.specs.List.{enumerate_from}
use Rattle.conc_types.specs.declared.facts.Facts.{Facts}
use Rattle.conc_types.specs.declared.facts.State.{State}
use Rattle.conc_types.specs.declared.plan.Plan.{Plan}
use Rattle.conc_types.specs.declared.plan.Req.{Req}
use Rattle.conc_types.specs.declared.script.Order.{Order}
use Rattle.conc_base_law.specs.Facts.{completion, current_stage, facts_of, is_entered, is_held, is_let, is_open, running_place, stages_begun, was_started, was_terminated}
use Rattle.conc_base_law.specs.Before.{last_life}
use Rattle.conc_base_law.specs.State.{is_done, no_facts, now, state, used}
use Rattle.conc_base_law.specs.Words.{is_set}
use Rattle.conc_base_law.proofs.FirstEvent.{facts_of-none}

-- no event speaks of a request, so all have no facts
map-no_facts : (plan : Plan) (rs : List Req) → map (λ (r : Req). no_facts) rs ≡ map (facts_of plan []) rs
map-no_facts plan [] = refl
map-no_facts plan (r ∷ rs) =
    let a : facts_of plan [] r ≡ no_facts = facts_of-none plan r in
    let b : map (λ (r : Req). no_facts) rs ≡ map (facts_of plan []) rs = map-no_facts plan rs in
    cc

-- and no command is done
map-not_done : (n : ℕ) (xs : List Order) → map (λ (order : Order). false) xs ≡ map (is_done []) (enumerate_from n xs)
unfolding is_done
map-not_done n [] = refl
map-not_done n (x ∷ xs) = ap (λ z. false ∷ z) (map-not_done (n + 1) xs)

-- all that stands
pub state-none : (plan : Plan) (done : List Bool) (facts : List Facts) → done ≡ map (λ (order : Order). false) plan.script.commands
    → facts ≡ map (λ (r : Req). no_facts) plan.requests
    → ◌≡◌ {A = State} record { empty = true; time = None; used = Some 0; done = done; facts = facts } (state plan [])
unfolding state now used
state-none plan done facts d f =
    rw (d ∙ map-not_done 1 plan.script.commands, f ∙ map-no_facts plan plan.requests) refl
