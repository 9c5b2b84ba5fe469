-- In a lawful history a request that was not entered is neither let nor open, and does not run.
use Rattle.std.proofs.Common.{◌≡◌, true, false, not, ◌&&◌, List, [], ◌∷◌, None, refl, sym, ◌∙◌, ap, subst, inl, inr}
use Rattle.std.proofs.lemmas.Bool.{and_parts, and_right, both_ways, false_from_ne_true, or_right}
use Rattle.conc_types.specs.declared.event.Event.{Event}
use Rattle.conc_types.specs.declared.facts.Facts.{Facts}
use Rattle.conc_types.specs.declared.facts.State.{State}
use Rattle.conc_types.specs.declared.plan.Plan.{Plan}
use Rattle.conc_types.specs.declared.plan.Req.{Req}
use Rattle.conc_base_law.specs.Before.{occurs}
use Rattle.conc_base_law.specs.Facts.{facts_of, is_entered, is_let, is_open}
use Rattle.conc_base_law.specs.Kinds.{is_command}
use Rattle.conc_base_law.specs.Law.{is_lawful_so_far, may_follow}
use Rattle.conc_base_law.specs.Next.{can_run, is_free, is_ready, may_let}
use Rattle.conc_base_law.specs.State.{facts_at, has_come, is_completed, is_live, is_running, is_waiting, state}
use Rattle.conc_base_law.specs.Words.{Has, is_set}
use Rattle.conc_base_law.proofs.FactsAt.{facts_at-state, is_running-state, let_out-state, opened-state}
use Rattle.conc_base_law.proofs.LiveApart.{is_let-more, is_open-more, let_could, open_could}
use Rattle.conc_base_law.proofs.RunningIsLet.{runs_let}

-- what can be let was entered
may_let-entered : (plan : Plan) (s : State) (r : Req) → may_let plan s r ≡ true → (facts_at s r).entered ≡ true
unfolding may_let is_ready
may_let-entered plan s r h =
    let f : Facts = facts_at s r in
    let ready : (f.entered && (not (is_live f) && (not (is_completed f) && (not f.held && (has_come s.time r.start && (can_run plan r && not (is_waiting plan s r))))))) ≡ true =
    (and_parts _ (is_free plan s r) h).0 in
    (and_parts f.entered _ ready).0

-- the same, by the events before
entered-at : (plan : Plan) (past : List Event) (r : Req) → Has plan.requests r → (facts_at (state plan past) r).entered ≡ is_entered past r
unfolding facts_of
entered-at plan past r hr = ap (λ f. f.entered) (facts_at-state plan past r hr)

-- what was entered stays so
entered-more : (past : List Event) (r : Req) (e : Event) → is_entered past r ≡ true → is_entered (e ∷ past) r ≡ true
unfolding is_entered
entered-more past r e h = or_right _ _ h

-- what is let was entered
let_entered : (plan : Plan) (past : List Event) (r : Req) → Has plan.requests r → is_lawful_so_far plan past ≡ true → is_let plan past r ≡ true → is_entered past r ≡ true
unfolding is_lawful_so_far is_let
let_entered plan [] r hr lawful h = cc
let_entered plan (e ∷ past) r hr lawful h =
    let p : (is_lawful_so_far plan past ≡ true) × (may_follow plan None past e ≡ true) = and_parts _ _ lawful in
    entered-more past r e (elim (is_let-more plan past r e h) [
      | inl l ↦
          let could : may_let plan (state plan past) r ≡ true = (let_could plan None past r hr (subst (λ d. may_follow plan None past d ≡ true) l p.1)).0 in
          sym (entered-at plan past r hr) ∙ may_let-entered plan (state plan past) r could
      | inr s ↦ let_entered plan past r hr p.0 s.1
    ])

-- no set is open before the first event
none_open : (r : Req) → is_open [] r ≡ false
unfolding is_open
none_open r = and_right (is_set r.item) _ refl

-- what is open was entered
open_entered : (plan : Plan) (past : List Event) (r : Req) → Has plan.requests r → is_lawful_so_far plan past ≡ true → is_open past r ≡ true → is_entered past r ≡ true
unfolding is_lawful_so_far
open_entered plan [] r hr lawful h = absurd (both_ways _ (none_open r) h)
open_entered plan (e ∷ past) r hr lawful h =
    let p : (is_lawful_so_far plan past ≡ true) × (may_follow plan None past e ≡ true) = and_parts _ _ lawful in
    entered-more past r e (elim (is_open-more past r e h) [
      | inl l ↦
          let could : may_let plan (state plan past) r ≡ true = (open_could plan None past r hr (subst (λ d. may_follow plan None past d ≡ true) l p.1)).0 in
          sym (entered-at plan past r hr) ∙ may_let-entered plan (state plan past) r could
      | inr s ↦ open_entered plan past r hr p.0 s.1
    ])

-- what stands of a request that was not entered
pub record IsUnentered (s : State) (r : Req) : Type 0 where
  pub entered : (facts_at s r).entered ≡ false
  pub let_out : (facts_at s r).let_out ≡ false
  pub opened : (facts_at s r).opened ≡ false
  pub runs : is_running (facts_at s r) ≡ false

-- it is so
pub unentered : (plan : Plan) (past : List Event) (r : Req) → Has plan.requests r → is_lawful_so_far plan past ≡ true → occurs (is_command r.command) past ≡ false
    → IsUnentered (state plan past) r
unfolding is_entered
unentered plan past r hr lawful h = record {
  entered = entered-at plan past r hr ∙ h;
  let_out = let_out-state plan past r hr ∙ false_from_ne_true _ (λ l. both_ways _ h (let_entered plan past r hr lawful l));
  opened = opened-state plan past r hr ∙ false_from_ne_true _ (λ o. both_ways _ h (open_entered plan past r hr lawful o));
  runs = is_running-state plan past r hr
      ∙ false_from_ne_true _ (λ k. both_ways _ h (let_entered plan past r hr lawful (runs_let plan past r hr lawful k)));
}
