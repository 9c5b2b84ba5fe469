-- The stage that follows another of a set is a later one, and one of the first 64.
use Rattle.std.proofs.Common.{◌≡◌, ℕ, ◌+◌, ◌<◌, ◌≤◌, true, ◌&&◌, [], length, Option, None, Some, refl, sym, ◌∙◌, ap, arith}
use Rattle.std.specs.Prelude.{nat_le, nat_lt, slice_get, unwrap_or}
use Rattle.std.specs.List.{enumerate_from, list_all}
use Rattle.std.specs.Option.{option_and_then, option_flatten, option_map_or}
use Rattle.std.proofs.lemmas.Bool.{and_parts, leb-true, ltb-true}
use Rattle.conc_types.specs.declared.event.Event.TheVariants as event
use Rattle.conc_types.specs.declared.event.Outcome.{Outcome}
use Rattle.conc_types.specs.declared.event.RequestId.{RequestId}
use Rattle.conc_types.specs.declared.facts.State.{State}
use Rattle.conc_types.specs.declared.plan.Plan.{Plan}
use Rattle.conc_types.specs.declared.plan.Req.{Req}
use Rattle.conc_types.specs.declared.set.SetDef.{SetDef}
use Rattle.conc_types.specs.declared.stage.Stage.{Stage}
use Rattle.conc_types.specs.Sets.{leads_on}
use Rattle.conc_types.specs.Words.{none_or, numbered}
use Rattle.conc_base_law.specs.Plans.{set_at, stages_of}
use Rattle.conc_base_law.specs.Stages.{after_stage, has_ended, link, link_place, next_stage, set_outcome, set_step, stage_outcome, step_from}
use Rattle.conc_base_law.specs.State.{facts_at}
use Rattle.conc_base_law.proofs.LawfulSoFar.{all-get}
use Rattle.conc_base_law.proofs.Numbers.{enumerate-get, numbered-get}
use Rattle.conc_base_law.proofs.Options.{and_then-some, map-some, then_some-some}

-- ---- a link

-- a link of a stage leads on
link-leads : (count m : ℕ) (found : Stage) (o : Outcome) (place : ℕ) (l : Option (Option ℕ)) → slice_get found.links (link_place o) ≡ l → option_flatten l ≡ Some place
    → leads_on count (m, found) ≡ true → (nat_lt m place && nat_lt place count) ≡ true
link-leads count m found o place None is h k = cc
link-leads count m found o place (Some l) is h k =
    ap (none_or (λ p. nat_lt m p && nat_lt p count)) (sym h)
    ∙ all-get (none_or (λ p. nat_lt m p && nat_lt p count)) found.links (link_place o) l k is

-- a link of one of a set's stages leads to a later one
link-later : (def : SetDef) (c : ℕ) (found : Stage) (o : Outcome) (place : ℕ) → numbered def.stages c ≡ Some found → link found o ≡ Some place
    → (c < place + 1) × (place + 1 ≤ 64)
link-later def c found o place here there =
    let p : (j : ℕ) × (c ≡ 1 + j) × (slice_get def.stages j ≡ Some found) = numbered-get def.stages c found here in
    let q : (m : ℕ) × (m ≡ 0 + p.0) × (slice_get (enumerate_from 0 def.stages) p.0 ≡ Some (m, found)) = enumerate-get 0 def.stages p.0 found p.2 in
    let all : list_all (leads_on (length def.stages)) (enumerate_from 0 def.stages) ≡ true = (and_parts _ _ def.forward).1 in
    let leads : leads_on (length def.stages) (q.0, found) ≡ true = all-get (leads_on (length def.stages)) (enumerate_from 0 def.stages) p.0 (q.0, found) all q.2 in
    let r : (nat_lt q.0 place ≡ true) × (nat_lt place (length def.stages) ≡ true) =
    and_parts _ _ (link-leads (length def.stages) q.0 found o place (slice_get found.links (link_place o)) refl there leads) in
    let most : nat_le (length def.stages) 64 ≡ true = (and_parts (nat_le 1 (length def.stages)) _ def.some).1 in
    let a : q.0 < place = ltb-true _ _ r.0 in
    let b : place < length def.stages = ltb-true _ _ r.1 in
    let d : length def.stages ≤ 64 = leb-true _ _ most in
    (omega (arith, p.1, q.1), omega arith)

-- ---- the next stage

-- no stage of no set is found
none_found : (c : ℕ) (found : Stage) → numbered [] c ≡ Some found → ⊥
none_found c found h =
    let p : (j : ℕ) × (c ≡ 1 + j) × (slice_get {X = Stage} [] j ≡ Some found) = numbered-get [] c found h in
    cc

-- the stage that follows one is a later one
next_stage-later : (plan : Plan) (s : State) (set : Req) (c k : ℕ) → next_stage plan s set c ≡ Some k → (c < k) × (k ≤ 64)
unfolding next_stage stages_of
next_stage-later plan s set c k h =
    let o : Outcome = stage_outcome plan s set c in
    let p : (place : ℕ) × (option_and_then (λ found. link found o) (numbered (stages_of plan set) c) ≡ Some place) × (place + 1 ≡ k) = map-some (λ place. place + 1) _ k h in
    let q : (found : Stage) × (numbered (stages_of plan set) c ≡ Some found) × (link found o ≡ Some p.0) = and_then-some (λ found. link found o) (numbered (stages_of plan set) c) p.0 p.1 in
    let r : (c < p.0 + 1) × (p.0 + 1 ≤ 64) = by (set_at plan set.item) q.0 o p.0 q.1 q.2 in
    (omega (arith, r.0, p.2), omega (arith, r.1, p.2)) where
      by : (def : Option SetDef) (found : Stage) (o : Outcome) (place : ℕ) → numbered (option_map_or (λ d. d.stages) def []) c ≡ Some found → link found o ≡ Some place
          → (c < place + 1) × (place + 1 ≤ 64)
      by None found o place here there = absurd (none_found c found here)
      by (Some def) found o place here there = link-later def c found o place here there

-- the stage that a set begins next, by its current one
step_from-later : (plan : Plan) (s : State) (set : Req) (current : Option ℕ) (id : RequestId) (k : ℕ) → step_from plan s set current ≡ Some (event.Stage id k)
    → (unwrap_or current 0 < k) × (k ≤ 64)
step_from-later plan s set None id k h =
    let e : event.Stage set.number 1 ≡ event.Stage id k = cc in
    let same : 1 ≡ k = cc in
    (omega arith, omega arith)
step_from-later plan s set (Some c) id k h =
    let p : (has_ended plan s set c ≡ true) × (after_stage plan s set c (next_stage plan s set c) ≡ event.Stage id k) =
    then_some-some (has_ended plan s set c) (after_stage plan s set c (next_stage plan s set c)) _ h in
    by (next_stage plan s set c) refl p.1 where
      by : (next : Option ℕ) → next_stage plan s set c ≡ next → after_stage plan s set c next ≡ event.Stage id k → (c < k) × (k ≤ 64)
      by None is e = let f : event.CloseSet set.number (set_outcome plan s set c) ≡ event.Stage id k = e in cc
      by (Some n) is e =
          let f : event.Stage set.number n ≡ event.Stage id k = e in
          let same : n ≡ k = cc in
          next_stage-later plan s set c k (is ∙ ap (λ m. Some m) same)

-- the stage that a set begins next is later than its current one, and one of the first 64
pub set_step-later : (plan : Plan) (s : State) (set : Req) (id : RequestId) (k : ℕ) → set_step plan s set ≡ Some (event.Stage id k)
    → (unwrap_or (facts_at s set).stage 0 < k) × (k ≤ 64)
unfolding set_step
set_step-later plan s set id k h = step_from-later plan s set (facts_at s set).stage id k h
