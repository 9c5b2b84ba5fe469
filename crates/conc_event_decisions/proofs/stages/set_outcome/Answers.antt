use Rattle.std.proofs.Common.{◌≡◌, ℕ, List, [], ◌∷◌, map, true, false, refl, ◌∙◌, ap}
use Rattle.std.specs.List.{filter, filter_map}
use Rattle.conc_types.specs.Words.{is_empty}
use Rattle.conc_types.specs.declared.facts.State.{State}
use Rattle.conc_types.specs.declared.plan.Plan.{Plan}
use Rattle.conc_types.specs.declared.plan.Req.{Req}
use Rattle.conc_types.specs.declared.stage.Stage.{Stage}
use Rattle.conc_base_law.specs.Plans.{is_member}
use Rattle.conc_base_law.specs.Stages.{critical_stages, of_severity, outcome_at, set_outcome, stage_outcome, worst}
use Rattle.conc_event_decisions.specs.Members.{AreMembers}
use Rattle.conc_event_decisions.proofs.stages.set_outcome.Goals as goal

-- each stage has the outcome of its members
outcomes : (plan : Plan) (s : State) (set : Req) (requests : List Req) → AreMembers plan set.number requests → (stages : List (ℕ × Stage))
    → map (λ stage. worst (filter_map (outcome_at s) (filter (is_member set.number stage.0) requests))) stages
    ≡ map (λ stage. stage_outcome plan s set stage.0) stages
unfolding stage_outcome
outcomes plan s set requests all [] = refl
outcomes plan s set requests all (stage ∷ stages) = rw (all stage.0) (ap (λ l. stage_outcome plan s set stage.0 ∷ l) (outcomes plan s set requests all stages))

pub returns-then-none_counts : goal.returns-then-none_counts
unfolding set_outcome critical_stages stage_outcome
returns-then-none_counts c =
    let none : is_empty (critical_stages c.args.plan.now c.args.state.now c.args.set.now) ≡ true = cc in
    rw (none, ← c.requires c.args.last) c.worst_outcome.ensures

pub returns-else-none_counts : goal.returns-else-none_counts
unfolding set_outcome critical_stages worst
returns-else-none_counts c =
    let one : is_empty (critical_stages c.args.plan.now c.args.state.now c.args.set.now) ≡ false = cc in
    let all = outcomes c.args.plan.now c.args.state.now c.args.set.now c.args.members.now c.requires (critical_stages c.args.plan.now c.args.state.now c.args.set.now) in
    rw (one, ← all, ← c.stages_of-stages.ensures.stages, ← c.facts_at-facts.ensures) (c.of_severity.ensures ∙ ap of_severity c.worst_critical.ensures)
