-- How the stages of a set follow each other, and what its close says.
use Rattle.std.proofs.Common.{◌≡◌, ◌⊎◌, ℕ, ◌+◌, ◌-◌, Bool, true, false, ◌&&◌, ◌==◌, List, ◌∷◌, map, Option, None, Some, is_some, if◌then◌else◌, refl, sym, ◌∙◌, ap, inl, inr}
use Rattle.std.specs.Bool.{then_some}
use Rattle.std.specs.List.{enumerate_from, filter}
use Rattle.std.specs.Option.{option_and_then, option_map}
use Rattle.std.proofs.lemmas.Bool.{and_from, and_left, and_parts, cases_Bool, eqb-true}
use Rattle.conc_types.specs.declared.event.Event.{Event}
use Rattle.conc_types.specs.declared.event.Event.TheVariants as event
use Rattle.conc_types.specs.declared.event.Outcome.{Outcome}
use Rattle.conc_types.specs.declared.event.RequestId.{RequestId}
use Rattle.conc_types.specs.declared.facts.State.{State}
use Rattle.conc_types.specs.declared.plan.Plan.{Plan}
use Rattle.conc_types.specs.declared.plan.Req.{Req}
use Rattle.conc_types.specs.declared.stage.Stage.{Stage}
use Rattle.conc_types.specs.Stages.{has_bit, has_stage}
use Rattle.conc_types.specs.Words.{is_between, is_empty, numbered, some_and}
use Rattle.conc_base_law.specs.Facts.{completion, current_stage, facts_of, stages_begun, was_completed}
use Rattle.conc_base_law.specs.Kinds.{begins_stage}
use Rattle.conc_base_law.specs.Before.{occurs}
use Rattle.conc_base_law.specs.Plans.{is_member, members, stages_of}
use Rattle.conc_base_law.specs.Stages.{after_stage, completed_at, counts_for_set, critical_stages, has_ended, link, next_stage, outcome_at, set_outcome, set_step, stage_outcome, step_from, worst}
use Rattle.conc_base_law.specs.State.{facts_at, state}
use Rattle.conc_base_law.specs.Words.{Has, id_eq}
use Rattle.conc_base_law.proofs.BegunStages.{stages_begun-occur}
use Rattle.conc_base_law.proofs.EqualEvents.{id_same}
use Rattle.conc_base_law.proofs.FactsAt.{facts_at-state}
use Rattle.conc_base_law.proofs.Options.{some_and-some, then_some-some}
use Rattle.conc_base_law.proofs.Endings.{completed-some, completion-more}
use Rattle.conc_base_law.proofs.Lists.{all-has, all-same, filter-same, filter_map-same, has-filter, map-same}

-- ---- members

-- what a member of a stage is
pub record IsMember (plan : Plan) (set : RequestId) (k : ℕ) (r : Req) : Type 0 where
  pub element : Has plan.requests r
  pub parent : r.parent ≡ Some set
  pub stage : r.stage ≡ k

-- each of the members is so
pub member : (plan : Plan) (set : RequestId) (k : ℕ) (r : Req) → Has (members plan set k) r → IsMember plan set k r
unfolding members is_member
member plan set k r h =
    let p : Has plan.requests r × ((some_and (id_eq set) r.parent && r.stage == k) ≡ true) = has-filter (λ x. some_and (id_eq set) x.parent && x.stage == k) plan.requests r h in
    let q : (some_and (id_eq set) r.parent ≡ true) × ((r.stage == k) ≡ true) = and_parts _ _ p.1 in
    let o : (id : RequestId) × (r.parent ≡ Some id) × (id_eq set id ≡ true) = some_and-some (id_eq set) r.parent q.0 in
    record { element = p.0; parent = o.1 ∙ ap (λ z. Some z) (sym (id_same set o.0 o.2)); stage = eqb-true r.stage k q.1 }

-- ---- what the outcomes of members decide

-- the outcome that stands of a request
pub outcome-at : (plan : Plan) (past : List Event) (r : Req) → Has plan.requests r → outcome_at (state plan past) r ≡ completion plan past r
unfolding outcome_at facts_of
outcome-at plan past r hr = ap (λ f. f.outcome) (facts_at-state plan past r hr)

-- the members of the stage have the same outcomes after both lists
abbrev pub SameOutcomes : Plan → Req → List Event → List Event → ℕ → Type 0
SameOutcomes plan set a b k = (r : Req) → Has (members plan set.number k) r → outcome_at (state plan a) r ≡ outcome_at (state plan b) r

-- then the stage has ended after both or after none
pub same-ended : (plan : Plan) (set : Req) (a b : List Event) (k : ℕ) → SameOutcomes plan set a b k → has_ended plan (state plan a) set k ≡ has_ended plan (state plan b) set k
unfolding has_ended completed_at outcome_at
same-ended plan set a b k h = all-same _ _ (members plan set.number k) (λ r m. ap is_some (h r m))

-- it has the same outcome
pub same-outcome : (plan : Plan) (set : Req) (a b : List Event) (k : ℕ) → SameOutcomes plan set a b k → stage_outcome plan (state plan a) set k ≡ stage_outcome plan (state plan b) set k
unfolding stage_outcome
same-outcome plan set a b k h = ap worst (filter_map-same (outcome_at (state plan a)) (outcome_at (state plan b)) (members plan set.number k) h)

-- the same stage follows it
pub same-next : (plan : Plan) (set : Req) (a b : List Event) (k : ℕ) → SameOutcomes plan set a b k → next_stage plan (state plan a) set k ≡ next_stage plan (state plan b) set k
unfolding next_stage
same-next plan set a b k h =
    ap (λ o. option_map (λ place. place + 1) (option_and_then (λ found. link found o) (numbered (stages_of plan set) k))) (same-outcome plan set a b k h)

-- each member of a stage that has ended is completed
pub ended-member : (plan : Plan) (past : List Event) (set : Req) (k : ℕ) (r : Req) → has_ended plan (state plan past) set k ≡ true → Has (members plan set.number k) r → was_completed plan past r ≡ true
unfolding has_ended completed_at was_completed outcome_at
ended-member plan past set k r h m =
    ap is_some (sym (outcome-at plan past r (member plan set.number k r m).element)) ∙ all-has (completed_at (state plan past)) (members plan set.number k) r h m

-- its outcomes stay
pub grow : (plan : Plan) (past : List Event) (set : Req) (k : ℕ) (e : Event) → has_ended plan (state plan past) set k ≡ true → SameOutcomes plan set past (e ∷ past) k
grow plan past set k e h = λ r m.
    let hr = (member plan set.number k r m).element in
    let o : (o : Outcome) × (completion plan past r ≡ Some o) = completed-some plan past r (ended-member plan past set k r h m) in
    outcome-at plan past r hr ∙ (o.1 ∙ sym (outcome-at plan (e ∷ past) r hr ∙ completion-more plan past r e o.0 o.1))

-- ---- the outcome of a set

-- a set has the same outcome where the same stages have begun, with the same outcomes
pub set_outcome-same : (plan : Plan) (set : Req) (s t : State) (last : ℕ)
    → ((k : ℕ) → has_stage (facts_at s set).begun.bits k ≡ has_stage (facts_at t set).begun.bits k)
    → ((k : ℕ) → has_stage (facts_at s set).begun.bits k ≡ true → stage_outcome plan s set k ≡ stage_outcome plan t set k)
    → stage_outcome plan s set last ≡ stage_outcome plan t set last
    → set_outcome plan s set last ≡ set_outcome plan t set last
unfolding set_outcome critical_stages counts_for_set
set_outcome-same plan set s t last bits outs here =
    let stages : List (ℕ × Stage) = enumerate_from 1 (stages_of plan set) in
    let f : ℕ × Stage → Bool = λ stage. stage.1.critical && has_stage (facts_at s set).begun.bits stage.0 in
    let g : ℕ × Stage → Bool = λ stage. stage.1.critical && has_stage (facts_at t set).begun.bits stage.0 in
    let same : filter f stages ≡ filter g stages = filter-same f g stages (λ x. ap (λ b. x.1.critical && b) (bits x.0)) in
    let outcomes : map (λ stage. stage_outcome plan s set stage.0) (filter f stages) ≡ map (λ stage. stage_outcome plan t set stage.0) (filter f stages) =
    map-same _ _ (filter f stages) (λ x k. outs x.0 (and_parts x.1.critical _ (has-filter f stages x k).1).1) in
    ap (λ o. if is_empty (filter f stages) then o else worst (map (λ stage. stage_outcome plan s set stage.0) (filter f stages))) here
    ∙ ap (λ l. if is_empty (filter f stages) then stage_outcome plan t set last else worst l) outcomes
    ∙ ap (λ l. if is_empty l then stage_outcome plan t set last else worst (map (λ stage. stage_outcome plan t set stage.0) l)) same

-- ---- begun stages

-- the stages that stand of a set
pub begun-bits : (plan : Plan) (past : List Event) (set : Req) (k : ℕ) → Has plan.requests set → has_stage (facts_at (state plan past) set).begun.bits k ≡ has_stage (stages_begun past set.number) k
unfolding facts_of
begun-bits plan past set k hs = ap (λ f. has_stage f.begun.bits k) (facts_at-state plan past set hs)

-- a stage among them has begun
pub has_stage-occurs : (past : List Event) (set : RequestId) (k : ℕ) → has_stage (stages_begun past set) k ≡ true → occurs (begins_stage set k) past ≡ true
unfolding has_stage
has_stage-occurs past set k h =
    let p : (is_between 1 64 k ≡ true) × (has_bit (stages_begun past set) (k - 1) ≡ true) = and_parts _ _ h in
    let q : has_stage (stages_begun past set) k ≡ true = and_from _ _ p.0 p.1 in
    sym (stages_begun-occur past set k p.0) ∙ q

-- no other stage is among them
outside : (bits k : ℕ) → is_between 1 64 k ≡ false → has_stage bits k ≡ false
unfolding has_stage
outside bits k h = and_left _ _ h

-- where the same stages have begun, the same are among them
pub has_stage-same : (a b : List Event) (set : RequestId) → ((k : ℕ) → occurs (begins_stage set k) a ≡ occurs (begins_stage set k) b) → (k : ℕ) → has_stage (stages_begun a set) k ≡ has_stage (stages_begun b set) k
has_stage-same a b set h k = elim (cases_Bool (is_between 1 64 k)) [
  | inl t ↦ stages_begun-occur a set k t ∙ (h k ∙ sym (stages_begun-occur b set k t))
  | inr f ↦ outside (stages_begun a set) k f ∙ sym (outside (stages_begun b set) k f)
]

-- ---- the steps of a set

-- a step begins the first stage, or one that follows a stage that has ended
pub record FromStage (plan : Plan) (past : List Event) (set : Req) (j : ℕ) : Type 0 where
  pub current : current_stage past set.number ≡ Some j
  pub ended : has_ended plan (state plan past) set j ≡ true

-- the current stage that stands of a set
pub current-at : (plan : Plan) (past : List Event) (set : Req) → Has plan.requests set → (facts_at (state plan past) set).stage ≡ current_stage past set.number
unfolding facts_of
current-at plan past set hs = ap (λ f. f.stage) (facts_at-state plan past set hs)

-- a stage that is the step of a set is its first one, or follows its current one, which has ended
pub stage_from : (plan : Plan) (past : List Event) (set : Req) (k : ℕ) → Has plan.requests set → set_step plan (state plan past) set ≡ Some (event.Stage set.number k)
    → ((current_stage past set.number ≡ None) × (k ≡ 1)) ⊎ ((j : ℕ) × FromStage plan past set j × (next_stage plan (state plan past) set j ≡ Some k))
unfolding set_step
stage_from plan past set k hs h = by (current_stage past set.number) refl (ap (step_from plan (state plan past) set) (sym (current-at plan past set hs)) ∙ h) where
  next : (j : ℕ) (n : Option ℕ) → after_stage plan (state plan past) set j n ≡ event.Stage set.number k → n ≡ Some k
  next j None e = let f : event.CloseSet set.number (set_outcome plan (state plan past) set j) ≡ event.Stage set.number k = e in cc
  next j (Some n) e = let f : event.Stage set.number n ≡ event.Stage set.number k = e in let g : n ≡ k = cc in ap (λ z. Some z) g

  by : (o : Option ℕ) → current_stage past set.number ≡ o → step_from plan (state plan past) set o ≡ Some (event.Stage set.number k)
      → ((current_stage past set.number ≡ None) × (k ≡ 1)) ⊎ ((j : ℕ) × FromStage plan past set j × (next_stage plan (state plan past) set j ≡ Some k))
  by None is e = let f : Some (event.Stage set.number 1) ≡ Some (event.Stage set.number k) = e in let g : 1 ≡ k = cc in inl (is, sym g)
  by (Some j) is e =
      let p : (has_ended plan (state plan past) set j ≡ true) × (after_stage plan (state plan past) set j (next_stage plan (state plan past) set j) ≡ event.Stage set.number k) = then_some-some _ _ _ e in
      inr (j, record { current = is; ended = p.0 }, next j (next_stage plan (state plan past) set j) p.1)

-- a close that is the step of a set comes where its current stage has ended and leads nowhere
pub close_from : (plan : Plan) (past : List Event) (set : Req) (o : Outcome) → Has plan.requests set → set_step plan (state plan past) set ≡ Some (event.CloseSet set.number o)
    → (j : ℕ) × FromStage plan past set j × (next_stage plan (state plan past) set j ≡ None) × (o ≡ set_outcome plan (state plan past) set j)
unfolding set_step
close_from plan past set o hs h = by (current_stage past set.number) refl (ap (step_from plan (state plan past) set) (sym (current-at plan past set hs)) ∙ h) where
  next : (j : ℕ) (n : Option ℕ) → after_stage plan (state plan past) set j n ≡ event.CloseSet set.number o → (n ≡ None) × (o ≡ set_outcome plan (state plan past) set j)
  next j None e = let f : event.CloseSet set.number (set_outcome plan (state plan past) set j) ≡ event.CloseSet set.number o = e in let g : set_outcome plan (state plan past) set j ≡ o = cc in (refl, sym g)
  next j (Some n) e = let f : event.Stage set.number n ≡ event.CloseSet set.number o = e in cc

  by : (c : Option ℕ) → current_stage past set.number ≡ c → step_from plan (state plan past) set c ≡ Some (event.CloseSet set.number o)
      → (j : ℕ) × FromStage plan past set j × (next_stage plan (state plan past) set j ≡ None) × (o ≡ set_outcome plan (state plan past) set j)
  by None is e = let f : Some (event.Stage set.number 1) ≡ Some (event.CloseSet set.number o) = e in cc
  by (Some j) is e =
      let p : (has_ended plan (state plan past) set j ≡ true) × (after_stage plan (state plan past) set j (next_stage plan (state plan past) set j) ≡ event.CloseSet set.number o) = then_some-some _ _ _ e in
      let q = next j (next_stage plan (state plan past) set j) p.1 in
      (j, record { current = is; ended = p.0 }, q.0, q.1)

-- an open set steps where no stage has begun, or its current stage has ended
pub steps_first : (plan : Plan) (past : List Event) (set : Req) → Has plan.requests set → current_stage past set.number ≡ None → is_some (set_step plan (state plan past) set) ≡ true
unfolding set_step
steps_first plan past set hs h = ap (λ c. is_some (step_from plan (state plan past) set c)) (current-at plan past set hs ∙ h)

-- an open set steps on where its current stage has ended
pub steps_on : (plan : Plan) (past : List Event) (set : Req) (j : ℕ) → Has plan.requests set → FromStage plan past set j → is_some (set_step plan (state plan past) set) ≡ true
unfolding set_step
steps_on plan past set j hs f =
    ap (λ c. is_some (step_from plan (state plan past) set c)) (current-at plan past set hs ∙ f.current)
    ∙ ap (λ b. is_some (then_some b (after_stage plan (state plan past) set j (next_stage plan (state plan past) set j)))) f.ended
