-- The opening, a stage and the close of a set each lower its bound.
use Rattle.std.proofs.Common.{◌≡◌, ℕ, ◌+◌, ◌-◌, ◌<◌, ◌≤◌, true, false, List, ◌∷◌, Option, Some, refl, ◌∙◌, ap, subst, arith}
use Rattle.std.specs.Prelude.{unwrap_or}
use Rattle.std.proofs.lemmas.Bool.{and_from, or_left}
use Rattle.conc_types.specs.declared.event.Event.{Event}
use Rattle.conc_types.specs.declared.event.Event.TheVariants as event
use Rattle.conc_types.specs.declared.event.Outcome.{Outcome}
use Rattle.conc_types.specs.declared.event.RequestId.{RequestId}
use Rattle.conc_types.specs.declared.plan.Plan.{Plan}
use Rattle.conc_types.specs.declared.plan.Req.{Req}
use Rattle.conc_types.specs.declared.script.Reading.{Reading}
use Rattle.conc_base_law.specs.Facts.{cancels, current_stage, facts_of, holds, is_let, is_open, running_place, runs, unlets}
use Rattle.conc_base_law.specs.Kinds.{act_of}
use Rattle.conc_base_law.specs.Law.{is_lawful_so_far, may_follow}
use Rattle.conc_base_law.specs.Next.{may_let}
use Rattle.conc_base_law.specs.Stages.{set_step}
use Rattle.conc_base_law.specs.State.{facts_at, state}
use Rattle.conc_base_law.specs.Words.{Has, is_set}
use Rattle.conc_base_law.proofs.Comes.{close_comes, same_request, stage_comes}
use Rattle.conc_base_law.proofs.Completed.{closed_set, opened_open}
use Rattle.conc_base_law.proofs.Due.{IsStepped, stage_stepped}
use Rattle.conc_base_law.proofs.EqualEvents.{eqb-refl}
use Rattle.conc_base_law.proofs.FactsAt.{facts_at-state}
use Rattle.conc_base_law.proofs.Links.{set_step-later}
use Rattle.conc_base_law.proofs.LiveApart.{open_could}
use Rattle.conc_base_law.proofs.OpenSets.{open_not_completed, open_set, set_runs_not}
use Rattle.conc_base_law.proofs.UsesUp.{could_not_completed, could_not_live, facts-completed, facts-let, facts-opened, facts-runs, left, set_let_not}
use Rattle.conc_base_law.proofs.Weights.{left-completed, left-open, left-open-le, left-unopened}

-- the bound of an open set
left-of_open : (plan : Plan) (past : List Event) (r : Req) → Has plan.requests r → is_lawful_so_far plan past ≡ true → is_open past r ≡ true
    → left plan past r ≡ 1 + (65 - unwrap_or (facts_of plan past r).stage 0)
left-of_open plan past r hr lawful h =
    let set : is_set r.item ≡ true = open_set past r h in
    left-open r (facts_of plan past r)
    (facts-completed plan past r ∙ open_not_completed plan past r hr lawful h)
    (facts-runs plan past r ∙ set_runs_not plan past r hr lawful set)
    (facts-let plan past r ∙ set_let_not plan past r hr lawful set)
    set
    (facts-opened plan past r ∙ h)

-- ---- the opening

-- it leaves a set as it ran
open-runs : (past : List Event) (r s : RequestId) → runs (event.OpenSet s ∷ past) r ≡ runs past r
unfolding runs running_place
open-runs past r s = refl

-- and as it was let
open-let : (plan : Plan) (past : List Event) (r : Req) (s : RequestId) → is_let plan (event.OpenSet s ∷ past) r ≡ is_let plan past r
unfolding is_let unlets holds cancels act_of
open-let plan past r s = refl

-- and makes it open
open-open : (past : List Event) (r : Req) → is_set r.item ≡ true → is_open (event.OpenSet r.number ∷ past) r ≡ true
unfolding is_open
open-open past r set = and_from _ _ set (or_left _ _ (eqb-refl r.number.number))

-- the opening of a set lowers its bound
pub open_less : (plan : Plan) (readings : Option (List Reading)) (past : List Event) (r : Req) → Has plan.requests r → is_lawful_so_far plan past ≡ true
    → may_follow plan readings past (event.OpenSet r.number) ≡ true → left plan (event.OpenSet r.number ∷ past) r < left plan past r
open_less plan readings past r hr lawful m =
    let could : (may_let plan (state plan past) r ≡ true) × (is_set r.item ≡ true) = open_could plan readings past r hr m in
    let dead : (is_let plan past r ≡ false) × (is_open past r ≡ false) = could_not_live plan past r hr could.0 in
    let n : runs past r.number ≡ false = set_runs_not plan past r hr lawful could.1 in
    let before : left plan past r ≡ 67 =
    left-unopened r (facts_of plan past r) (facts-completed plan past r ∙ could_not_completed plan past r hr could.0) (facts-runs plan past r ∙ n) (facts-let plan past r ∙ dead.0)
    could.1 (facts-opened plan past r ∙ dead.1) in
    let next = event.OpenSet r.number ∷ past in
    let after : left plan next r ≤ 1 + (65 - unwrap_or (facts_of plan next r).stage 0) =
    left-open-le r (facts_of plan next r) (facts-runs plan next r ∙ (open-runs past r.number r.number ∙ n)) (facts-let plan next r ∙ (open-let plan past r r.number ∙ dead.0))
    could.1 (facts-opened plan next r ∙ open-open past r could.1) in
    omega arith

-- ---- a stage

-- it leaves a set as it ran
stage-runs : (past : List Event) (r s : RequestId) (k : ℕ) → runs (event.Stage s k ∷ past) r ≡ runs past r
unfolding runs running_place
stage-runs past r s k = refl

-- and as it was let
stage-let : (plan : Plan) (past : List Event) (r : Req) (s : RequestId) (k : ℕ) → is_let plan (event.Stage s k ∷ past) r ≡ is_let plan past r
unfolding is_let unlets holds cancels act_of
stage-let plan past r s k = refl

-- and open
stage-open : (past : List Event) (r : Req) (s : RequestId) (k : ℕ) → is_open (event.Stage s k ∷ past) r ≡ is_open past r
unfolding is_open
stage-open past r s k = refl

-- and is its current stage
stage-current : (plan : Plan) (past : List Event) (r : Req) (k : ℕ) → (facts_of plan (event.Stage r.number k ∷ past) r).stage ≡ Some k
unfolding facts_of current_stage
stage-current plan past r k = rw (eqb-refl r.number.number) refl

-- a stage of a set lowers its bound
pub stage_less : (plan : Plan) (readings : Option (List Reading)) (past : List Event) (r : Req) (k : ℕ) → Has plan.requests r → is_lawful_so_far plan past ≡ true
    → may_follow plan readings past (event.Stage r.number k) ≡ true → left plan (event.Stage r.number k ∷ past) r < left plan past r
stage_less plan readings past r k hr lawful m =
    let h : is_open past r ≡ true = opened_open plan past r hr (stage_comes plan readings past r.number k m) in
    let set : is_set r.item ≡ true = open_set past r h in
    let n : runs past r.number ≡ false = set_runs_not plan past r hr lawful set in
    let l : is_let plan past r ≡ false = set_let_not plan past r hr lawful set in
    let p : IsStepped plan (state plan past) r.number k = stage_stepped plan readings past r.number k m in
    let same : p.req ≡ r = same_request plan p.req r p.element hr p.number in
    let step : set_step plan (state plan past) r ≡ Some (event.Stage r.number k) = subst (λ z. set_step plan (state plan past) z ≡ Some (event.Stage r.number k)) same p.step in
    let later : (unwrap_or (facts_at (state plan past) r).stage 0 < k) × (k ≤ 64) = set_step-later plan (state plan past) r r.number k step in
    let current : unwrap_or (facts_at (state plan past) r).stage 0 ≡ unwrap_or (facts_of plan past r).stage 0 = ap (λ f. unwrap_or f.stage 0) (facts_at-state plan past r hr) in
    let before : left plan past r ≡ 1 + (65 - unwrap_or (facts_of plan past r).stage 0) = left-of_open plan past r hr lawful h in
    let next = event.Stage r.number k ∷ past in
    let now : unwrap_or (facts_of plan next r).stage 0 ≡ k = ap (λ o. unwrap_or o 0) (stage-current plan past r k) in
    let after : left plan next r ≤ 1 + (65 - unwrap_or (facts_of plan next r).stage 0) =
    left-open-le r (facts_of plan next r) (facts-runs plan next r ∙ (stage-runs past r.number r.number k ∙ n)) (facts-let plan next r ∙ (stage-let plan past r r.number k ∙ l))
    set (facts-opened plan next r ∙ (stage-open past r r.number k ∙ h)) in
    omega (arith, later.0, later.1)

-- ---- the close

-- the close of a set lowers its bound
pub close_less : (plan : Plan) (readings : Option (List Reading)) (past : List Event) (r : Req) (o : Outcome) → Has plan.requests r → is_lawful_so_far plan past ≡ true
    → may_follow plan readings past (event.CloseSet r.number o) ≡ true → left plan (event.CloseSet r.number o ∷ past) r < left plan past r
close_less plan readings past r o hr lawful m =
    let h : is_open past r ≡ true = opened_open plan past r hr (close_comes plan readings past r.number o m) in
    let before : left plan past r ≡ 1 + (65 - unwrap_or (facts_of plan past r).stage 0) = left-of_open plan past r hr lawful h in
    let next = event.CloseSet r.number o ∷ past in
    let after : left plan next r ≡ 0 =
    left-completed r (facts_of plan next r) (facts-completed plan next r ∙ closed_set plan past r (event.CloseSet r.number o) (eqb-refl r.number.number)) in
    omega arith
