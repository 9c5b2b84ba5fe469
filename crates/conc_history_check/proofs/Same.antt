-- What is said of a request depends on its facts, on those of its members, and on those of the set of which it is one.
use Rattle.std.proofs.Common.{◌≡◌, ℕ, Bool, true, false, not, ◌&&◌, List, [], ◌∷◌, Option, None, Some, refl, sym, ◌∙◌, ap, inl, inr}
use Rattle.std.specs.Prelude.{is_some}
use Rattle.std.specs.Bool.{then_some}
use Rattle.std.specs.List.{filter, list_all}
use Rattle.std.proofs.lemmas.Bool.{cases_Bool}
use Rattle.conc_types.specs.declared.facts.State.{State}
use Rattle.conc_types.specs.declared.plan.Plan.{Plan}
use Rattle.conc_types.specs.declared.plan.Req.{Req}
use Rattle.conc_types.specs.Stages.{has_stage}
use Rattle.conc_types.specs.Words.{some_and}
use Rattle.conc_base_law.specs.Next.{has_step, is_left_running, is_ready, runs_somewhere}
use Rattle.conc_base_law.specs.Plans.{is_member, members, parent}
use Rattle.conc_base_law.specs.Stages.{completed_at, has_ended, set_step, step_from}
use Rattle.conc_base_law.specs.State.{facts_at, has_come, is_completed, is_live, is_waiting}
use Rattle.conc_base_law.specs.Words.{Has}
use Rattle.conc_event_classes.specs.declared.classes.Classes.{Classes}
use Rattle.conc_event_queue.specs.Turns.{turn}
use Rattle.conc_history_check.specs.Marks.{IsMarked, waits_to_start}
use Rattle.conc_history_check.specs.declared.marks.Marks.{Marks}

-- ---- the step of a set

-- two tests that agree on the elements of a filter
list_all-filter_same : {T : Type 0} (test f g : T → Bool) (xs : List T) → ((x : T) → Has xs x → test x ≡ true → g x ≡ f x)
    → list_all g (filter test xs) ≡ list_all f (filter test xs)
list_all-filter_same test f g [] same = refl
list_all-filter_same test f g (x ∷ xs) same =
    let later : list_all g (filter test xs) ≡ list_all f (filter test xs) = list_all-filter_same test f g xs (λ y has. same y (inr has)) in
    elim (cases_Bool (test x)) [
      | inl hit ↦ rw (hit, same x (inl refl) hit, later) refl
      | inr miss ↦ rw miss later
    ]

-- a stage has ended where the facts of its members are the same
has_ended-same : (plan : Plan) (s t : State) (q : Req) (stage : ℕ)
    → ((x : Req) → Has plan.requests x → is_member q.number stage x ≡ true → facts_at t x ≡ facts_at s x)
    → has_ended plan t q stage ≡ has_ended plan s q stage
unfolding has_ended members completed_at
has_ended-same plan s t q stage same =
    list_all-filter_same (is_member q.number stage) (λ x. is_completed (facts_at s x)) (λ x. is_completed (facts_at t x)) plan.requests
    (λ x has member. ap is_completed (same x has member))

-- a step is there before the first stage, and where the last one has ended
step_from-some : (plan : Plan) (s t : State) (q : Req) (o : Option ℕ)
    → ((stage : ℕ) → has_ended plan t q stage ≡ has_ended plan s q stage)
    → is_some (step_from plan t q o) ≡ is_some (step_from plan s q o)
step_from-some plan s t q None same = refl
step_from-some plan s t q (Some stage) same = there (has_ended plan t q stage) _ ∙ same stage ∙ sym (there (has_ended plan s q stage) _) where
  there : {T : Type 0} (b : Bool) (x : T) → is_some (then_some b x) ≡ b
  there true x = refl
  there false x = refl

has_step-same : (plan : Plan) (s t : State) (q : Req) → facts_at t q ≡ facts_at s q
    → ((stage : ℕ) (x : Req) → Has plan.requests x → is_member q.number stage x ≡ true → facts_at t x ≡ facts_at s x)
    → has_step plan t q ≡ has_step plan s q
unfolding has_step set_step
has_step-same plan s t q own same =
    rw own
    (ap (λ b. (facts_at s q).opened && b)
    (step_from-some plan s t q (facts_at s q).stage (λ stage. has_ended-same plan s t q stage (same stage))))

-- ---- the rest

left-same : (s t : State) (q : Req) → facts_at t q ≡ facts_at s q → is_left_running t q ≡ is_left_running s q
unfolding is_left_running
left-same s t q own = rw own refl

runs-same : (s t : State) (q : Req) → facts_at t q ≡ facts_at s q → runs_somewhere t q ≡ runs_somewhere s q
unfolding runs_somewhere
runs-same s t q own = rw own refl

waits-same : (s t : State) (q : Req) → facts_at t q ≡ facts_at s q → waits_to_start t q ≡ waits_to_start s q
unfolding waits_to_start
waits-same s t q own = rw own refl

waiting-same : (plan : Plan) (s t : State) (q : Req) → ((set : Req) → parent plan q ≡ Some set → facts_at t set ≡ facts_at s set) → is_waiting plan t q ≡ is_waiting plan s q
unfolding is_waiting
waiting-same plan s t q same = by (parent plan q) refl where
  by : (o : Option Req) → parent plan q ≡ o → some_and (λ set. not (has_stage (facts_at t set).begun.bits q.stage)) o ≡ some_and (λ set. not (has_stage (facts_at s set).begun.bits q.stage)) o
  by None is = refl
  by (Some set) is = ap (λ f. not (has_stage f.begun.bits q.stage)) (same set is)

ready-same : (plan : Plan) (s t : State) (q : Req) → facts_at t q ≡ facts_at s q → has_come s.time q.start ≡ has_come t.time q.start
    → ((set : Req) → parent plan q ≡ Some set → facts_at t set ≡ facts_at s set) → is_ready plan t q ≡ is_ready plan s q
unfolding is_ready
ready-same plan s t q own come set = rw (own, sym come, waiting-same plan s t q set) refl

-- what was said of the one state is said of the other
pub marked-same : (plan : Plan) (classes : Classes) (s t : State) (q : Req) (marks : Marks) → facts_at t q ≡ facts_at s q → has_come s.time q.start ≡ has_come t.time q.start
    → ((stage : ℕ) (x : Req) → Has plan.requests x → is_member q.number stage x ≡ true → facts_at t x ≡ facts_at s x)
    → ((set : Req) → parent plan q ≡ Some set → facts_at t set ≡ facts_at s set)
    → IsMarked plan classes s q marks → IsMarked plan classes t q marks
marked-same plan classes s t q marks own come members set is = record {
  left = is.left ∙ ap (λ b. Some (then_some b q.number.number)) (sym (left-same s t q own));
  running = is.running ∙ ap (λ b. Some (then_some b q.number.number)) (sym (runs-same s t q own));
  waiting = is.waiting ∙ ap (λ b. Some (then_some b q.number.number)) (sym (waits-same s t q own));
  steps = is.steps ∙ ap (λ b. Some (then_some b q.number.number)) (sym (has_step-same plan s t q own members));
  live = is.live ∙ ap (λ f. Some (then_some (is_live f) q.number.number)) (sym own);
  ready = is.ready ∙ ap (λ b. Some (then_some b (turn q))) (sym (ready-same plan s t q own come set));
}
