-- In a lawful history an open set is not completed.
use Rattle.std.proofs.Common.{◌≡◌, true, false, List, [], ◌∷◌, None, is_some, refl, sym, ◌∙◌, ap, subst, inl, inr}
use Rattle.std.proofs.lemmas.Bool.{and_left, and_parts, and_right, both_ways, cases_Bool, cond-false, or_from}
use Rattle.conc_types.specs.declared.event.Event.{Event}
use Rattle.conc_types.specs.declared.event.Event.TheVariants as event
use Rattle.conc_types.specs.declared.event.Outcome.TheVariants as outcome
use Rattle.conc_types.specs.declared.plan.Plan.{Plan}
use Rattle.conc_types.specs.declared.plan.Req.{Req}
use Rattle.conc_base_law.specs.Facts.{completes, completion, is_open, runs, waits_for_stage, was_completed}
use Rattle.conc_base_law.specs.Kinds.{closes}
use Rattle.conc_base_law.specs.Law.{is_lawful_so_far, may_follow}
use Rattle.conc_base_law.specs.Next.{may_let}
use Rattle.conc_base_law.specs.Plans.{parent}
use Rattle.conc_base_law.specs.State.{state}
use Rattle.conc_base_law.specs.Words.{Has, id_eq, is_set}
use Rattle.conc_base_law.proofs.Completed.{cancels_not, idle_not, let_no_set, none_if, parent_cancel, waits-more, was_completed-neither}
use Rattle.conc_base_law.proofs.EqualEvents.{id_same}
use Rattle.conc_base_law.proofs.FactsAt.{is_completed-state, is_waiting-state}
use Rattle.conc_base_law.proofs.LiveApart.{is_open-more, may_let-parts, open_could}
use Rattle.conc_base_law.proofs.RunningIsLet.{runs_let}
use Rattle.conc_base_law.proofs.Stops.{end_runs, interrupt_runs}

-- an open request is a set
pub open_set : (past : List Event) (r : Req) → is_open past r ≡ true → is_set r.item ≡ true
unfolding is_open
open_set past r h = (and_parts (is_set r.item) _ h).0

-- no set runs
pub set_runs_not : (plan : Plan) (past : List Event) (r : Req) → Has plan.requests r → is_lawful_so_far plan past ≡ true → is_set r.item ≡ true → runs past r.number ≡ false
set_runs_not plan past r hr lawful set = elim (cases_Bool (runs past r.number)) [
  | inl t ↦ absurd (both_ways _ (let_no_set plan past r hr lawful (runs_let plan past r hr lawful t)) set)
  | inr f ↦ f
]

-- no set is open before the first event
none_open : (r : Req) → is_open [] r ≡ false
unfolding is_open
none_open r = and_right (is_set r.item) _ refl

-- an open set does not wait for a stage
open_waits_no_more : (plan : Plan) (past : List Event) (r : Req) → Has plan.requests r → is_lawful_so_far plan past ≡ true → is_open past r ≡ true
    → waits_for_stage plan past r ≡ false
unfolding is_lawful_so_far
open_waits_no_more plan [] r hr lawful h = absurd (both_ways _ (none_open r) h)
open_waits_no_more plan (e ∷ past) r hr lawful h =
    let p : (is_lawful_so_far plan past ≡ true) × (may_follow plan None past e ≡ true) = and_parts _ _ lawful in
    waits-more plan past r e (elim (is_open-more past r e h) [
      | inl l ↦
          let could : may_let plan (state plan past) r ≡ true = (open_could plan None past r hr (subst (λ d. may_follow plan None past d ≡ true) l p.1)).0 in
          sym (is_waiting-state plan past r) ∙ (may_let-parts plan (state plan past) r could).1
      | inr s ↦ open_waits_no_more plan past r hr p.0 s.1
    ])

-- an event after which an open set is open does not complete it
completes_not : (plan : Plan) (past : List Event) (r : Req) (e : Event) → Has plan.requests r → is_lawful_so_far plan past ≡ true
    → may_follow plan None past e ≡ true → is_open past r ≡ true → closes r.number e ≡ false
    → is_some (completes plan past (completion plan past) r e) ≡ false
unfolding completes
completes_not plan past r (event.Ended q o x) hr lawful m h k = elim (cases_Bool (id_eq q r.number)) [
  | inl same ↦
      let n : may_follow plan None past (event.Ended r.number o x) ≡ true =
      subst (λ z. may_follow plan None past (event.Ended z o x) ≡ true) (id_same q r.number same) m in
      absurd (both_ways _ (set_runs_not plan past r hr lawful (open_set past r h)) (end_runs plan None past r o x hr n))
  | inr other ↦ none_if _ o other
]
completes_not plan past r (event.Interrupt q) hr lawful m h k = elim (cases_Bool (id_eq q r.number)) [
  | inl same ↦
      let n : may_follow plan None past (event.Interrupt r.number) ≡ true =
      subst (λ z. may_follow plan None past (event.Interrupt z) ≡ true) (id_same q r.number same) m in
      absurd (both_ways _ (set_runs_not plan past r hr lawful (open_set past r h)) (interrupt_runs plan None past r hr n))
  | inr other ↦ none_if _ outcome.Error (and_left _ _ other)
]
completes_not plan past r (event.CloseSet s o) hr lawful m h k =
    ap is_some (cond-false (id_eq s r.number) _ _ k)
    ∙ none_if _ outcome.Cancelled (and_right _ _ (open_waits_no_more plan past r hr lawful h))
completes_not plan past r (event.Command n) hr lawful m h k =
    none_if _ outcome.Cancelled (or_from _ _ (cancels_not plan past r (event.Command n) (idle_not plan past r (inl h)))
    (parent_cancel plan past r (event.Command n) lawful (open_waits_no_more plan past r hr lawful h) (parent plan r) refl))
completes_not plan past r _ hr lawful m h k = refl

-- no opening completes its set
open_completes_not : (plan : Plan) (past : List Event) (r : Req) → is_some (completes plan past (completion plan past) r (event.OpenSet r.number)) ≡ false
unfolding completes
open_completes_not plan past r = refl

-- the state at each position of a lawful history: an open set is not completed
pub open_not_completed : (plan : Plan) (past : List Event) (r : Req) → Has plan.requests r → is_lawful_so_far plan past ≡ true → is_open past r ≡ true
    → was_completed plan past r ≡ false
unfolding is_lawful_so_far
open_not_completed plan [] r hr lawful h = absurd (both_ways _ (none_open r) h)
open_not_completed plan (e ∷ past) r hr lawful h =
    let p : (is_lawful_so_far plan past ≡ true) × (may_follow plan None past e ≡ true) = and_parts _ _ lawful in
    elim (is_open-more past r e h) [
      | inl l ↦
          let could : may_let plan (state plan past) r ≡ true = (open_could plan None past r hr (subst (λ d. may_follow plan None past d ≡ true) l p.1)).0 in
          let before : was_completed plan past r ≡ false = sym (is_completed-state plan past r hr) ∙ (may_let-parts plan (state plan past) r could).0 in
          subst (λ d. was_completed plan (d ∷ past) r ≡ false) (sym l)
          (was_completed-neither plan past r (event.OpenSet r.number) before (open_completes_not plan past r))
      | inr s ↦ was_completed-neither plan past r e (open_not_completed plan past r hr p.0 s.1) (completes_not plan past r e hr p.0 p.1 s.1 s.0)
    ]
