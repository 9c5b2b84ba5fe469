-- The facts that stand of a request are those that the events before say of it.
use Rattle.std.proofs.Common.{◌≡◌, ◌==◌, ◌-◌, ℕ, Bool, true, false, not, List, map, Option, None, Some, if◌then◌else◌, refl, ◌∙◌, ap}
use Rattle.std.specs.Prelude.{slice_get, unwrap_or}
use Rattle.std.specs.Option.{option_and_then, option_map}
use Rattle.std.proofs.lemmas.Option.{slice_get-map}
use Rattle.conc_types.specs.declared.event.Event.{Event}
use Rattle.conc_types.specs.declared.event.RequestId.{RequestId}
use Rattle.conc_types.specs.declared.plan.Plan.{Plan}
use Rattle.conc_types.specs.declared.plan.Req.{Req}
use Rattle.conc_types.specs.Plans.{request}
use Rattle.conc_types.specs.Stages.{has_stage}
use Rattle.conc_types.specs.Words.{numbered, some_and}
use Rattle.conc_base_law.specs.Facts.{facts_of, is_let, is_open, running_place, runs, stages_begun, waits_for_stage, was_completed}
use Rattle.conc_base_law.specs.Plans.{parent}
use Rattle.conc_base_law.specs.State.{facts_at, is_completed, is_live, is_running, is_waiting, no_facts, state}
use Rattle.conc_base_law.specs.Words.{Has}
use Rattle.conc_base_law.proofs.Numbering.{found, numbered_plan}

-- the n-th of a list that is made element by element
pub numbered-map : {A B : Type 0} (f : A → B) (xs : List A) (n : ℕ) → numbered (map f xs) n ≡ option_map f (numbered xs n)
numbered-map {A} {B} f xs n = by (n == 0) where
  by : (b : Bool) → (if b then None else slice_get (map f xs) (n - 1)) ≡ option_map f (if b then None else slice_get xs (n - 1))
  by true = refl
  by false = slice_get-map f xs (n - 1)

-- the facts that stand of a request of the plan are those read from the events
pub facts_at-state : (plan : Plan) (past : List Event) (r : Req) → Has plan.requests r
    → facts_at (state plan past) r ≡ facts_of plan past r
unfolding facts_at state request
facts_at-state plan past r has =
    ap (λ o. unwrap_or o no_facts) (numbered-map (facts_of plan past) plan.requests r.number.number)
    ∙ ap (λ o. unwrap_or (option_map (facts_of plan past) o) no_facts) (numbered_plan plan r has)

-- ---- each of them

-- it is let
pub let_out-state : (plan : Plan) (past : List Event) (r : Req) → Has plan.requests r
    → (facts_at (state plan past) r).let_out ≡ is_let plan past r
unfolding facts_of
let_out-state plan past r has = ap (λ f. f.let_out) (facts_at-state plan past r has)

-- it is open
pub opened-state : (plan : Plan) (past : List Event) (r : Req) → Has plan.requests r
    → (facts_at (state plan past) r).opened ≡ is_open past r
unfolding facts_of
opened-state plan past r has = ap (λ f. f.opened) (facts_at-state plan past r has)

-- the place at which it runs
pub place-state : (plan : Plan) (past : List Event) (r : Req) → Has plan.requests r
    → (facts_at (state plan past) r).place ≡ running_place past r.number
unfolding facts_of
place-state plan past r has = ap (λ f. f.place) (facts_at-state plan past r has)

-- it runs
pub is_running-state : (plan : Plan) (past : List Event) (r : Req) → Has plan.requests r
    → is_running (facts_at (state plan past) r) ≡ runs past r.number
unfolding facts_of runs
is_running-state plan past r has = ap (λ f. is_running f) (facts_at-state plan past r has)

-- it is completed
pub is_completed-state : (plan : Plan) (past : List Event) (r : Req) → Has plan.requests r
    → is_completed (facts_at (state plan past) r) ≡ was_completed plan past r
unfolding facts_of was_completed
is_completed-state plan past r has = ap (λ f. is_completed f) (facts_at-state plan past r has)

-- it is live
pub is_live-state : (plan : Plan) (past : List Event) (r : Req) → Has plan.requests r
    → is_live (facts_at (state plan past) r) ≡ is_live (facts_of plan past r)
is_live-state plan past r has = ap (λ f. is_live f) (facts_at-state plan past r has)

-- a member waits for its stage where the stages that stand of its set have not that one
pub is_waiting-state : (plan : Plan) (past : List Event) (r : Req)
    → is_waiting plan (state plan past) r ≡ waits_for_stage plan past r
unfolding is_waiting waits_for_stage parent facts_of
is_waiting-state plan past r = by r.parent where
  at : (id : RequestId) (o : Option Req) → request plan id ≡ o
      → some_and (λ set. not (has_stage (facts_at (state plan past) set).begun.bits r.stage)) o
      ≡ some_and (λ set. not (has_stage (stages_begun past set.number) r.stage)) o
  at id None is = refl
  at id (Some set) is = ap (λ f. not (has_stage f.begun.bits r.stage)) (facts_at-state plan past set (found plan id set is).1)

  by : (o : Option RequestId)
      → some_and (λ set. not (has_stage (facts_at (state plan past) set).begun.bits r.stage)) (option_and_then (request plan) o)
      ≡ some_and (λ set. not (has_stage (stages_begun past set.number) r.stage)) (option_and_then (request plan) o)
  by None = refl
  by (Some id) = at id (request plan id) refl
