-- One life of a plan with submissions only: nothing is held, cancelled, terminated or interrupted.
use Rattle.std.proofs.Common.{◌≡◌, ℕ, zero, suc, Bool, true, false, not, List, [], ◌∷◌, Option, None, Some, if◌then◌else◌, refl, sym, ◌∙◌, ap, inl, inr, arith}
use Rattle.std.specs.List.{list_all}
use Rattle.std.specs.Option.{option_map}
use Rattle.std.proofs.lemmas.Bool.{and_left, and_parts, and_right, both_ways, cond-false, not_from_true, or_cases, or_from, or_left, or_parts, or_right}
use Rattle.conc_types.specs.declared.event.Event.{Event}
use Rattle.conc_types.specs.declared.event.Event.TheVariants as event
use Rattle.conc_types.specs.declared.event.Extent.{Extent}
use Rattle.conc_types.specs.declared.event.Outcome.{Outcome}
use Rattle.conc_types.specs.declared.event.RequestId.{RequestId}
use Rattle.conc_types.specs.declared.plan.Plan.{Plan}
use Rattle.conc_types.specs.declared.plan.Req.{Req}
use Rattle.conc_types.specs.declared.script.Act.{Act}
use Rattle.conc_types.specs.declared.script.Act.TheVariants as act
use Rattle.conc_types.specs.declared.script.Order.{Order}
use Rattle.conc_types.specs.declared.script.Reading.{Reading}
use Rattle.conc_types.specs.Words.{numbered, some_and}
use Rattle.conc_base_law.specs.Ends.{IsReported}
use Rattle.conc_base_law.specs.Facts.{cancels, facts_of, holds, is_held, runs, terminates, was_started, was_terminated}
use Rattle.conc_base_law.specs.Kinds.{act_of, is_cancel, is_hold, is_resume, is_terminate, starts, ends_run}
use Rattle.conc_base_law.specs.Law.{is_lawful, is_lawful_so_far, may_follow}
use Rattle.conc_base_law.specs.Next.{is_left_running}
use Rattle.conc_base_law.specs.Before.{last_life, occurs, occurs_since}
use Rattle.conc_base_law.specs.State.{facts_at, is_running, state}
use Rattle.conc_base_law.specs.Words.{Has}
use Rattle.conc_base_law.proofs.FactsAt.{facts_at-state, is_running-state}
use Rattle.conc_base_law.proofs.LawfulSoFar.{all-get}
use Rattle.conc_base_law.proofs.Numbering.{numbered-at}
use Rattle.conc_base_law.proofs.Running.{runs-occurs}
use Rattle.conc_base_law.proofs.Stops.{interrupt_comes, LeftRunning}
use Rattle.conc_base_law.specs.Steady.{is_submission}

-- the orders of the plan are submissions
abbrev pub Submits : Plan → Type 0
Submits plan = list_all (λ order. is_submission order.act) plan.script.commands ≡ true

-- one lawful life of such a plan, the latest event first, whose ends are those of the reports
pub record Calm (plan : Plan) (readings : List Reading) (past : List Event) : Type 0 where
  pub submits : Submits plan
  pub lawful : is_lawful plan readings past ≡ true
  pub so_far : is_lawful_so_far plan past ≡ true
  pub one_life : occurs is_resume past ≡ false
  pub reported : (id : RequestId) (o : Outcome) (x : Extent) → Has past (event.Ended id o (Some x)) → IsReported plan id o x

-- the life before its last event
pub calm-before : (plan : Plan) (readings : List Reading) (past : List Event) (e : Event) → Calm plan readings (e ∷ past) → Calm plan readings past
unfolding is_lawful is_lawful_so_far
calm-before plan readings past e c =
    let n : (is_resume e ≡ false) × (occurs is_resume past ≡ false) = or_parts _ _ c.one_life in
    let l = (and_parts _ _ c.lawful).0 in
    record {
      submits = c.submits;
      lawful = sym (cond-false (is_resume e) (is_lawful_so_far plan past) (is_lawful plan readings past) n.0) ∙ l;
      so_far = (and_parts (is_lawful_so_far plan past) _ c.so_far).0;
      one_life = n.1;
      reported = λ id o x h. c.reported id o x (inr h);
    }

-- its last event might follow
pub calm-follows : (plan : Plan) (readings : List Reading) (past : List Event) (e : Event) → Calm plan readings (e ∷ past) → may_follow plan None past e ≡ true
unfolding is_lawful_so_far
calm-follows plan readings past e c = (and_parts (is_lawful_so_far plan past) _ c.so_far).1

-- the same, by the readings
pub calm-reads : (plan : Plan) (readings : List Reading) (past : List Event) (e : Event) → Calm plan readings (e ∷ past) → may_follow plan (Some readings) past e ≡ true
unfolding is_lawful
calm-reads plan readings past e c = (and_parts (if is_resume e then is_lawful_so_far plan past else is_lawful plan readings past) _ c.lawful).1

-- its last event is no resume
pub calm-no_resume : (plan : Plan) (readings : List Reading) (past : List Event) (e : Event) → Calm plan readings (e ∷ past) → is_resume e ≡ false
calm-no_resume plan readings past e c = (or_parts _ _ c.one_life).0

-- ---- no command but a submission

-- what a command does is a submission
submits-at : (plan : Plan) (n : ℕ) → Submits plan → (o : Option Order) → numbered plan.script.commands n ≡ o → (test : Act → Bool) → ((a : Act) → is_submission a ≡ true → test a ≡ false)
    → some_and test (option_map (λ order. order.act) o) ≡ false
submits-at plan n h None is test never = refl
submits-at plan n h (Some order) is test never = never order.act (by n is) where
  by : (n : ℕ) → numbered plan.script.commands n ≡ Some order → is_submission order.act ≡ true
  by zero k = cc
  by (suc m) k = all-get (λ order. is_submission order.act) plan.script.commands m order h (sym (numbered-at plan.script.commands (suc m) m (omega arith)) ∙ k)

-- a test that no submission passes
pub no_act : (plan : Plan) (e : Event) → Submits plan → (test : Act → Bool) → ((a : Act) → is_submission a ≡ true → test a ≡ false) → some_and test (act_of plan e) ≡ false
unfolding act_of
no_act plan (event.Command n) h test never = submits-at plan n h (numbered plan.script.commands n) refl test never
no_act plan _ h test never = refl

-- a submission holds nothing
no_hold : (r : RequestId) (a : Act) → is_submission a ≡ true → is_hold r a ≡ false
no_hold r (act.Hold q) h = cc
no_hold r _ h = refl

-- it cancels nothing
no_cancel : (r : RequestId) (a : Act) → is_submission a ≡ true → is_cancel r a ≡ false
no_cancel r (act.Cancel q) h = cc
no_cancel r _ h = refl

-- it terminates nothing
no_terminate : (r : RequestId) (a : Act) → is_submission a ≡ true → is_terminate r a ≡ false
no_terminate r (act.Terminate q) h = cc
no_terminate r _ h = refl

-- nothing holds a request
pub holds-not : (plan : Plan) (past : List Event) (r : Req) (e : Event) → Submits plan → holds plan r past e ≡ false
unfolding holds
holds-not plan past r e h = and_left _ _ (no_act plan e h (is_hold r.number) (no_hold r.number))

-- nor cancels it
pub cancels-not : (plan : Plan) (past : List Event) (c : Req → Option Outcome) (r : Req) (e : Event) → Submits plan → cancels plan past c r e ≡ false
unfolding cancels
cancels-not plan past c r e h = and_left _ _ (no_act plan e h (is_cancel r.number) (no_cancel r.number))

-- nor terminates it
terminates-not : (plan : Plan) (past : List Event) (r : Req) (e : Event) → Submits plan → terminates plan r past e ≡ false
unfolding terminates
terminates-not plan past r e h = and_left _ _ (no_act plan e h (is_terminate r.number) (no_terminate r.number))

-- what no event begins does not stand
pub since-never : (kind other : List Event → Event → Bool) → ((past : List Event) (e : Event) → kind past e ≡ false) → (past : List Event) → occurs_since kind other past ≡ false
since-never kind other never [] = refl
since-never kind other never (e ∷ past) = or_from _ _ (never past e) (and_right _ _ (since-never kind other never past))

-- no request is held
pub held-not : (plan : Plan) (past : List Event) (r : Req) → Submits plan → is_held plan past r ≡ false
unfolding is_held
held-not plan past r h = since-never _ _ (λ p e. holds-not plan p r e h) past

-- no request was terminated
pub terminated-not : (plan : Plan) (past : List Event) (r : Req) → Submits plan → was_terminated plan past r ≡ false
unfolding was_terminated
terminated-not plan past r h = since-never _ _ (λ p e. terminates-not plan p r e h) past

-- ---- one life

-- the last life is the whole list
pub one_life-all : (past : List Event) → occurs is_resume past ≡ false → last_life past ≡ past
unfolding last_life
one_life-all [] h = refl
one_life-all (e ∷ past) h =
    let p : (is_resume e ≡ false) × (occurs is_resume past ≡ false) = or_parts _ _ h in
    cond-false (is_resume e) [] (e ∷ last_life past) p.0 ∙ ap (λ l. e ∷ l) (one_life-all past p.1)

-- what stands since an event stands
pub since-occurs : (kind : Event → Bool) (other : List Event → Event → Bool) (past : List Event) → occurs_since (λ _ e. kind e) other past ≡ true → occurs kind past ≡ true
since-occurs kind other [] h = cc
since-occurs kind other (e ∷ past) h = elim (or_cases (kind e) _ h) [
  | inl k ↦ or_left _ _ k
  | inr l ↦ or_right _ _ (since-occurs kind other past (and_parts (not (other past e)) _ l).1)
]

-- a request that runs was started in this life
runs-started : (past : List Event) (r : RequestId) → occurs is_resume past ≡ false → runs past r ≡ true → was_started past r ≡ true
unfolding was_started
runs-started past r one run =
    ap (occurs (starts r)) (one_life-all past one)
    ∙ since-occurs (starts r) (λ _ e. ends_run r e) past (sym (runs-occurs past r) ∙ run)

-- no request is left running
left_running : (plan : Plan) (readings : List Reading) (past : List Event) (r : Req) → Has plan.requests r → Calm plan readings past → is_left_running (state plan past) r ≡ true → ⊥
unfolding is_left_running facts_of
left_running plan readings past r hr c h =
    let p : (is_running (facts_at (state plan past) r) ≡ true) × (not (facts_at (state plan past) r).started ≡ true) = and_parts _ _ h in
    let s : (facts_at (state plan past) r).started ≡ was_started past r.number = ap (λ f. f.started) (facts_at-state plan past r hr) in
    let run : runs past r.number ≡ true = sym (is_running-state plan past r hr) ∙ p.0 in
    let t : (facts_at (state plan past) r).started ≡ true = s ∙ runs-started past r.number c.one_life run in
    both_ways _ (not_from_true _ t) p.1

-- no request is interrupted
pub no_interrupt : (plan : Plan) (readings : List Reading) (past : List Event) (id : RequestId) → Calm plan readings (event.Interrupt id ∷ past) → ⊥
no_interrupt plan readings past id c =
    let l : LeftRunning plan (state plan past) id = interrupt_comes plan None past id (calm-follows plan readings past (event.Interrupt id) c) in
    left_running plan readings past l.req l.element (calm-before plan readings past (event.Interrupt id) c) l.runs_on
