-- A request of which a machine says that it is let and does not run.
use Rattle.std.proofs.Common.{◌≡◌, ◌&&◌, Bool, true, false, not, List, None, Some, Option, is_some, reverse, refl, sym, ◌∙◌, ap, subst}
use Rattle.conc_types.specs.declared.event.Event.{Event}
use Rattle.conc_types.specs.declared.event.PlaceId.{PlaceId}
use Rattle.conc_types.specs.declared.event.RequestId.{RequestId}
use Rattle.conc_types.specs.declared.facts.Facts.{Facts}
use Rattle.conc_types.specs.declared.plan.Plan.{Plan}
use Rattle.conc_types.specs.declared.plan.Req.{Req}
use Rattle.conc_types.specs.Plans.{request}
use Rattle.conc_types.specs.Words.{some_and}
use Rattle.conc_base_law.specs.Facts.{facts_of}
use Rattle.conc_base_law.specs.State.{facts_at, is_running, state}
use Rattle.conc_base_law.proofs.FactsAt.{facts_at-state}
use Rattle.conc_base_law.proofs.Numbering.{found}
use Rattle.conc_base_law.proofs.Options.{some_and-some}
use Rattle.conc_run_state.specs.Machines.{Machine, plan_of, StandsFor}
use Rattle.conc_run_desk.specs.Desks.{IsLetAfter, IsLetIn, list_at}
use Rattle.conc_run_desk.specs.State.{DeskState}
use Rattle.conc_run_desk.specs.Ties.{WaitsToStart}

-- the facts are those of one that is let and does not run
abbrev pub are_let : Facts → Bool
are_let f = f.let_out && not (is_running f)

-- what the call of a machine says
abbrev pub SaysLet : Machine → RequestId → Bool → Type 0
SaysLet machine r ok =
    (past : List Event) → StandsFor machine past
    → ok ≡ some_and (λ q. are_let (facts_at (state (plan_of machine) past) q)) (request (plan_of machine) r)

same-number : (a b : RequestId) → a.number ≡ b.number → a ≡ b
same-number a b is = ap (λ n. record { number = n }) is

no-place : (o : Option PlaceId) → not (is_some o) ≡ true → o ≡ None
no-place None is = refl
no-place (Some p) is = cc

waits : (f : Facts) → are_let f ≡ true → WaitsToStart f
waits f is = by f.let_out (is_running f) refl refl is where
  by : (out run : Bool) → f.let_out ≡ out → is_running f ≡ run → out && not run ≡ true → WaitsToStart f
  by true false is runs so = record { let_out = is; place = no-place f.place (ap not runs) }
  by true true is runs so = cc
  by false run is runs so = cc

-- after these events it is let
pub let-after : (plan : Plan) (past : List Event) (r : RequestId) → some_and (λ q. are_let (facts_at (state plan past) q)) (request plan r) ≡ true → IsLetAfter plan past r
let-after plan past r is =
    let q : (q : Req) × (request plan r ≡ Some q) × (are_let (facts_at (state plan past) q) ≡ true) = some_and-some (λ q. are_let (facts_at (state plan past) q)) (request plan r) is in
    let f : (q.0.number.number ≡ r.number) × _ = found plan r q.0 q.1 in record {
      req = q.0;
      there = f.1;
      number = same-number q.0.number r f.0;
      waits = waits (facts_of plan past q.0) (sym (ap are_let (facts_at-state plan past q.0 f.1)) ∙ q.2);
    }

-- so it is in the list of the desk that lends the machine
pub let-in : (machine : Machine) (desk : DeskState) (r : RequestId) (ok : Bool) → machine ≡ desk.work.machine → StandsFor machine (reverse (list_at desk)) → SaysLet machine r ok → ok ≡ true → IsLetIn desk r
let-in machine desk r ok is stands says so =
    subst (λ (m : Machine). IsLetAfter (plan_of m) (reverse (list_at desk)) r) is (let-after (plan_of machine) (reverse (list_at desk)) r (sym (says (reverse (list_at desk)) stands) ∙ so))
