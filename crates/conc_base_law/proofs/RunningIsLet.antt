-- In a lawful history a request that runs is let.
use Rattle.std.proofs.Common.{◌≡◌, true, false, List, [], ◌∷◌, Option, None, Some, refl, sym, ◌∙◌, subst, inl, inr}
use Rattle.std.proofs.lemmas.Bool.{and_from, and_left, and_parts, and_right, not_from_false, not_from_true, or_from, or_right}
use Rattle.conc_types.specs.declared.event.Event.{Event}
use Rattle.conc_types.specs.declared.event.Event.TheVariants as event
use Rattle.conc_types.specs.declared.event.Outcome.{Outcome}
use Rattle.conc_types.specs.declared.event.PlaceId.{PlaceId}
use Rattle.conc_types.specs.declared.plan.Plan.{Plan}
use Rattle.conc_types.specs.declared.plan.Req.{Req}
use Rattle.conc_types.specs.declared.script.Reading.{Reading}
use Rattle.conc_base_law.specs.Facts.{cancels, completion, holds, is_idle, is_let, running_place, runs, unlets}
use Rattle.conc_base_law.specs.Kinds.{act_of, ends_run}
use Rattle.conc_base_law.specs.Law.{is_lawful_so_far, may_follow}
use Rattle.conc_base_law.specs.State.{state}
use Rattle.conc_base_law.specs.Words.{Has}
use Rattle.conc_base_law.proofs.Comes.{may_start-parts, start_comes}
use Rattle.conc_base_law.proofs.FactsAt.{let_out-state}
use Rattle.conc_base_law.proofs.RunningPlace.{place-runs, running_place-more, runs-place}

-- a request that starts is let
pub start_let : (plan : Plan) (readings : Option (List Reading)) (past : List Event) (r : Req) (place : PlaceId) → Has plan.requests r
    → may_follow plan readings past (event.Started r.number place) ≡ true → is_let plan past r ≡ true
start_let plan readings past r place hr h =
    sym (let_out-state plan past r hr) ∙ (may_start-parts plan (state plan past) r place (start_comes plan readings past r place hr h)).0

-- a request that runs is not idle
running_not_idle : (past : List Event) (c : Req → Option Outcome) (r : Req) → runs past r.number ≡ true → is_idle past c r ≡ false
unfolding is_idle
running_not_idle past c r run = and_right _ _ (and_left _ _ (not_from_true _ run))

-- an event that does not stop a running request leaves it let
running_not_unlet : (plan : Plan) (past : List Event) (r : Req) (e : Event) → runs past r.number ≡ true → ends_run r.number e ≡ false
    → unlets plan r past e ≡ false
unfolding unlets holds cancels
running_not_unlet plan past r e run goes_on =
    or_from _ _ goes_on
    (or_from _ _ (and_right _ _ (running_not_idle past (completion plan past) r run))
    (and_right _ _ (running_not_idle past (completion plan past) r run)))

-- a start leaves its request let
start_not_unlet : (plan : Plan) (past : List Event) (r : Req) (place : PlaceId) → unlets plan r past (event.Started r.number place) ≡ false
unfolding unlets holds cancels act_of
start_not_unlet plan past r place = refl

-- a let request stays so until an event unlets it
stays_let : (plan : Plan) (past : List Event) (r : Req) (e : Event) → is_let plan past r ≡ true → unlets plan r past e ≡ false
    → is_let plan (e ∷ past) r ≡ true
unfolding is_let
stays_let plan past r e before stays = or_right _ _ (and_from _ _ (not_from_false _ stays) before)

-- a request that runs at a place is let
runs_let_at : (plan : Plan) (past : List Event) (r : Req) (p : PlaceId) → Has plan.requests r → is_lawful_so_far plan past ≡ true
    → running_place past r.number ≡ Some p → is_let plan past r ≡ true
unfolding is_lawful_so_far running_place
runs_let_at plan [] r p hr lawful run = cc
runs_let_at plan (e ∷ past) r p hr lawful run =
    let l : (is_lawful_so_far plan past ≡ true) × (may_follow plan None past e ≡ true) = and_parts _ _ lawful in
    elim (running_place-more past e r.number p run) [
      | inl start ↦
          let m : may_follow plan None past (event.Started r.number p) ≡ true = subst (λ d. may_follow plan None past d ≡ true) start l.1 in
          let k : is_let plan (event.Started r.number p ∷ past) r ≡ true =
          stays_let plan past r (event.Started r.number p) (start_let plan None past r p hr m) (start_not_unlet plan past r p) in
          subst (λ d. is_let plan (d ∷ past) r ≡ true) (sym start) k
      | inr on ↦
          stays_let plan past r e (runs_let_at plan past r p hr l.0 on.1) (running_not_unlet plan past r e (place-runs past r.number p on.1) on.0)
    ]

-- the state at each position of a lawful history: a request that runs is let
pub runs_let : (plan : Plan) (past : List Event) (r : Req) → Has plan.requests r → is_lawful_so_far plan past ≡ true → runs past r.number ≡ true
    → is_let plan past r ≡ true
runs_let plan past r hr lawful run =
    let p : (place : PlaceId) × (running_place past r.number ≡ Some place) = runs-place past r.number run in
    runs_let_at plan past r p.0 hr lawful p.1
