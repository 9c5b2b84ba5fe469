-- Two finished lives of a steady plan say the same of each request.
use Rattle.std.proofs.Common.{◌≡◌, ℕ, Bool, true, false, not, ◌&&◌, List, Option, None, Some, is_some, if◌then◌else◌, refl, sym, ◌∙◌, ap, inl, inr}
use Rattle.std.specs.Bool.{then_some}
use Rattle.std.proofs.lemmas.Bool.{both_ways, cases_Bool, cond-false}
use Rattle.conc_types.specs.declared.event.Event.{Event}
use Rattle.conc_types.specs.declared.event.Outcome.{Outcome}
use Rattle.conc_types.specs.declared.event.Outcome.TheVariants as outcome
use Rattle.conc_types.specs.declared.event.Phase.{Phase}
use Rattle.conc_types.specs.declared.event.Phase.TheVariants as phase
use Rattle.conc_types.specs.declared.event.Status.{Status}
use Rattle.conc_types.specs.declared.event.Status.TheVariants as status
use Rattle.conc_types.specs.declared.facts.Facts.{Facts}
use Rattle.conc_types.specs.declared.facts.State.{State}
use Rattle.conc_types.specs.declared.plan.Plan.{Plan}
use Rattle.conc_types.specs.declared.plan.Req.{Req}
use Rattle.conc_types.specs.declared.script.Reading.{Reading}
use Rattle.conc_types.specs.Words.{some_and}
use Rattle.conc_base_law.specs.Facts.{completion, current_stage, facts_of, is_entered, is_open, waits_for_stage}
use Rattle.conc_base_law.specs.Kinds.{begins_stage, closes}
use Rattle.conc_base_law.specs.Before.{occurs}
use Rattle.conc_base_law.specs.Plans.{is_admitted, is_enabled}
use Rattle.conc_base_law.specs.Stages.{next_stage, set_outcome}
use Rattle.conc_base_law.specs.State.{facts_at, has_come, is_running, is_waiting, now, state}
use Rattle.conc_base_law.specs.Status.{open_status, status_by, status_of, waiting_status}
use Rattle.conc_base_law.specs.Words.{Has, is_set}
use Rattle.conc_base_law.proofs.FactsAt.{facts_at-state, is_waiting-state, let_out-state, opened-state}
use Rattle.conc_base_law.proofs.OpenSets.{open_set}
use Rattle.conc_base_law.proofs.Calm.{held-not}
use Rattle.conc_base_law.proofs.Chains.{begun-bits, current-at, has_stage-same, has_stage-occurs, same-next, same-outcome, SameOutcomes, set_outcome-same}
use Rattle.conc_base_law.proofs.Endings.{cancelled_completed, closed_not_open, completed-some, open_opened, opened_or_closed, parent_closed, IsParent, waits-parent, way, Way, way_cancel, way_close, way_end}
use Rattle.conc_base_law.proofs.Follows.{ended-let, ended-same, Follows, follows, IsFinal, members-same, waits-less}
use Rattle.conc_base_law.proofs.Settled.{let-not}
use Rattle.conc_base_law.proofs.StageChains.{all_ended, Chain, chain, IsClosed, Leads, leads_last, leads_on_to}
use Rattle.conc_base_law.proofs.Times.{come-by_end}

-- two finished lives of a steady plan
pub record AreFinal (plan : Plan) (readings : List Reading) (a b : List Event) : Type 0 where
  pub one : IsFinal plan readings a
  pub another : IsFinal plan readings b

-- the same, the other way round
pub turned : (plan : Plan) (readings : List Reading) (a b : List Event) → AreFinal plan readings a b → AreFinal plan readings b a
turned plan readings a b f = record { one = f.another; another = f.one }

-- what came in the one has come in the other
goes : (plan : Plan) (readings : List Reading) (a b : List Event) → AreFinal plan readings a b → Follows plan a b
goes plan readings a b f = follows plan readings a b f.another f.one.calm

-- two tests of which each implies the other
same-test : (x y : Bool) → (x ≡ true → y ≡ true) → (y ≡ true → x ≡ true) → x ≡ y
same-test true y f g = sym (f refl)
same-test false true f g = g refl
same-test false false f g = refl

-- ---- stages

-- the same stages have begun
begun-same : (plan : Plan) (readings : List Reading) (a b : List Event) (set : Req) (k : ℕ) → AreFinal plan readings a b → Has plan.requests set
    → occurs (begins_stage set.number k) a ≡ occurs (begins_stage set.number k) b
begun-same plan readings a b set k f hs =
    same-test _ _ ((goes plan readings a b f).begun set k hs) ((goes plan readings b a (turned plan readings a b f)).begun set k hs)

-- the same members wait
waits-same : (plan : Plan) (readings : List Reading) (a b : List Event) (r : Req) → AreFinal plan readings a b → waits_for_stage plan a r ≡ waits_for_stage plan b r
waits-same plan readings a b r f = elim (cases_Bool (waits_for_stage plan a r)) [
  | inr n ↦ n ∙ sym (waits-less plan a b r (goes plan readings a b f).begun n)
  | inl t ↦ elim (cases_Bool (waits_for_stage plan b r)) [
    | inl u ↦ t ∙ sym u
    | inr n ↦ absurd (both_ways _ (waits-less plan b a r (goes plan readings b a (turned plan readings a b f)).begun n) t)
  ]
]

-- ---- the outcome of a set

-- a set that was closed has the same outcome
closed-same : (plan : Plan) (readings : List Reading) (a b : List Event) (set : Req) → AreFinal plan readings a b → Has plan.requests set → occurs (closes set.number) a ≡ true
    → completion plan a set ≡ completion plan b set
closed-same plan readings a b set f hs h =
    let w : Follows plan a b = goes plan readings a b f in
    let c : Chain plan a set = chain plan readings a set hs f.one.calm in
    let d : Chain plan b set = chain plan readings b set hs f.another.calm in
    let p : IsClosed plan a set = c.closed h in
    let q : IsClosed plan b set = d.closed (w.closed set hs h) in
    let same : (k : ℕ) → occurs (begins_stage set.number k) a ≡ true → SameOutcomes plan set a b k =
    λ k i. members-same plan readings a b set k hs f.one.calm f.another.calm w.let_out (all_ended plan a set p.last c p.from k i) i in
    let here : occurs (begins_stage set.number p.last) a ≡ true = c.begun p.last p.from.current in
    let none : next_stage plan (state plan b) set p.last ≡ None = sym (same-next plan set a b p.last (same p.last here)) ∙ p.none in
    let last : p.last ≡ q.last = by p.last q none (d.leads p.last (w.begun set p.last hs here)) in
    let outcomes : set_outcome plan (state plan a) set p.last ≡ set_outcome plan (state plan b) set p.last =
    set_outcome-same plan set (state plan a) (state plan b) p.last
    (λ k. begun-bits plan a set k hs ∙ (has_stage-same a b set.number (λ i. begun-same plan readings a b set i f hs) k ∙ sym (begun-bits plan b set k hs)))
    (λ k i. same-outcome plan set a b k (same k (has_stage-occurs a set.number k (sym (begun-bits plan a set k hs) ∙ i))))
    (same-outcome plan set a b p.last (same p.last here)) in
    p.outcome ∙ (ap (λ z. Some z) (outcomes ∙ ap (set_outcome plan (state plan b) set) last) ∙ sym q.outcome) where
      by : (j : ℕ) (q : IsClosed plan b set) → next_stage plan (state plan b) set j ≡ None → Leads plan b set j → j ≡ q.last
      by j q none (leads_last l) = let e : Some j ≡ Some q.last = sym l ∙ q.from.current in cc
      by j q none (leads_on_to n e m i) = absurd (cc (m, none))

-- ---- the outcome of a request

-- the set of a member that waits was closed in both
parent_closed-goes : (plan : Plan) (readings : List Reading) (a b : List Event) (r : Req) → AreFinal plan readings a b → waits_for_stage plan a r ≡ true → parent_closed a r ≡ true → parent_closed b r ≡ true
parent_closed-goes plan readings a b r f w h =
    let p : (set : Req) × IsParent plan r set = waits-parent plan a r w in
    let k : occurs (closes p.0.number) a ≡ true = ap (some_and (λ z. occurs (closes z) a)) (sym p.1.number) ∙ h in
    ap (some_and (λ z. occurs (closes z) b)) p.1.number ∙ (goes plan readings a b f).closed p.0 p.1.element k

-- what is completed in the one has the same outcome in the other
outcome-goes : (plan : Plan) (readings : List Reading) (a b : List Event) (r : Req) (o : Outcome) → AreFinal plan readings a b → Has plan.requests r → completion plan a r ≡ Some o → completion plan a r ≡ completion plan b r
outcome-goes plan readings a b r o f hr h = by (way plan readings a r o f.one.calm h) where
  back : (p : Outcome) → completion plan b r ≡ Some p → o ≡ outcome.Cancelled → Way plan b r p → completion plan a r ≡ completion plan b r
  back p k c (way_end e) =
      let w : Follows plan b a = goes plan readings b a (turned plan readings a b f) in
      ended-same plan readings a b r hr f.one.calm f.another.calm (w.let_out r hr (ended-let plan readings b r hr f.another.calm e)) e
  back p k c (way_close e) = sym (closed-same plan readings b a r (turned plan readings a b f) hr e)
  back p k c (way_cancel e w d) = h ∙ (ap (λ z. Some z) (c ∙ sym d) ∙ sym k)

  by : Way plan a r o → completion plan a r ≡ completion plan b r
  by (way_end e) = ended-same plan readings a b r hr f.one.calm f.another.calm e ((goes plan readings a b f).let_out r hr (ended-let plan readings a r hr f.one.calm e))
  by (way_close e) = closed-same plan readings a b r f hr e
  by (way_cancel e w d) =
      let u : waits_for_stage plan b r ≡ true = sym (waits-same plan readings a b r f) ∙ w in
      let p : (p : Outcome) × (completion plan b r ≡ Some p) = completed-some plan b r (cancelled_completed plan b r (parent_closed-goes plan readings a b r f w e) u) in
      back p.0 p.1 d (way plan readings b r p.0 f.another.calm p.1)

-- a request has the same outcome, or none
pub outcome-same : (plan : Plan) (readings : List Reading) (a b : List Event) (r : Req) → AreFinal plan readings a b → Has plan.requests r → completion plan a r ≡ completion plan b r
outcome-same plan readings a b r f hr = by (completion plan a r) (completion plan b r) refl refl where
  by : (x y : Option Outcome) → completion plan a r ≡ x → completion plan b r ≡ y → completion plan a r ≡ completion plan b r
  by (Some o) y h k = outcome-goes plan readings a b r o f hr h
  by None (Some o) h k = sym (outcome-goes plan readings b a r o (turned plan readings a b f) hr k)
  by None None h k = h ∙ sym k

-- ---- the other facts

-- a set that is open in the one is open in the other
opened-goes : (plan : Plan) (readings : List Reading) (a b : List Event) (r : Req) → AreFinal plan readings a b → Has plan.requests r → is_open a r ≡ true → is_open b r ≡ true
opened-goes plan readings a b r f hr h =
    elim (opened_or_closed b r (open_set a r h) ((goes plan readings a b f).opened r hr (open_opened a r h))) [
      | inl o ↦ o
      | inr c ↦
          let d : occurs (closes r.number) a ≡ true = (goes plan readings b a (turned plan readings a b f)).closed r hr c in
          absurd (both_ways _ (closed_not_open plan readings a r hr f.one.calm d) h)
    ]

-- a set with a current stage in the one has one in the other
current-goes : (plan : Plan) (readings : List Reading) (a b : List Event) (r : Req) → AreFinal plan readings a b → Has plan.requests r → is_some (current_stage a r.number) ≡ true → is_some (current_stage b r.number) ≡ true
current-goes plan readings a b r f hr h = by (current_stage a r.number) refl h where
  by : (o : Option ℕ) → current_stage a r.number ≡ o → is_some o ≡ true → is_some (current_stage b r.number) ≡ true
  by None is k = cc
  by (Some j) is k =
      (chain plan readings b r hr f.another.calm).some j ((goes plan readings a b f).begun r j hr ((chain plan readings a r hr f.one.calm).begun j is))

-- the starts of the same requests have come
come-same : (plan : Plan) (readings : List Reading) (a b : List Event) (r : Req) → AreFinal plan readings a b → has_come (now a) r.start ≡ has_come (now b) r.start
come-same plan readings a b r f = same-test _ _
    (come-by_end plan readings a b r.start f.one.order f.one.calm f.another.calm f.another.done)
    (come-by_end plan readings b a r.start f.one.order f.another.calm f.one.calm f.one.done)

-- ---- the status

-- the status of a request that is not completed and does not run, by what decides it
form : Plan → Req → Bool → Bool → Bool → Bool → Bool → Bool → Phase × Status
form plan r opened paused held waiting come let_out =
    if opened then (phase.Running, (if paused then status.Paused else status.Normal))
    else (if held then (phase.Inactive, status.OnHold)
    else (if not (is_set r.item) && not (is_enabled plan r) then (phase.Inactive, status.Disabled)
    else (if not (is_set r.item) && not (is_admitted plan r) then (phase.Inactive, status.NoManager)
    else (if waiting then (phase.Pending, status.Waiting)
    else (if not come then (phase.Pending, status.Scheduled)
    else (if let_out then (phase.Pending, status.Normal)
    else (phase.Pending, status.Standby)))))))

-- it is so
open-form : (plan : Plan) (s : State) (r : Req) (f : Facts) → is_running f ≡ false
    → open_status plan s r f ≡ form plan r f.opened (is_some f.stage) f.held (is_waiting plan s r) (has_come s.time r.start) f.let_out
unfolding form open_status waiting_status
open-form plan s r f h = cond-false (is_running f) _ _ h

-- what is said of a request at rest
record SaysSame (plan : Plan) (r : Req) (s t : State) : Type 0 where
  entered : (facts_at s r).entered ≡ (facts_at t r).entered
  outcome : (facts_at s r).outcome ≡ (facts_at t r).outcome
  runs : (is_running (facts_at s r) ≡ false) × (is_running (facts_at t r) ≡ false)
  opened : (facts_at s r).opened ≡ (facts_at t r).opened
  stage : is_some (facts_at s r).stage ≡ is_some (facts_at t r).stage
  held : (facts_at s r).held ≡ (facts_at t r).held
  let_out : (facts_at s r).let_out ≡ (facts_at t r).let_out
  waiting : is_waiting plan s r ≡ is_waiting plan t r
  come : has_come s.time r.start ≡ has_come t.time r.start

-- a request that is not completed has the same status
open-same : (plan : Plan) (s t : State) (r : Req) → SaysSame plan r s t → open_status plan s r (facts_at s r) ≡ open_status plan t r (facts_at t r)
open-same plan s t r h =
    open-form plan s r (facts_at s r) h.runs.0
    ∙ (ap (λ z. form plan r z (is_some (facts_at s r).stage) (facts_at s r).held (is_waiting plan s r) (has_come s.time r.start) (facts_at s r).let_out) h.opened
    ∙ (ap (λ z. form plan r (facts_at t r).opened z (facts_at s r).held (is_waiting plan s r) (has_come s.time r.start) (facts_at s r).let_out) h.stage
    ∙ (ap (λ z. form plan r (facts_at t r).opened (is_some (facts_at t r).stage) z (is_waiting plan s r) (has_come s.time r.start) (facts_at s r).let_out) h.held
    ∙ (ap (λ z. form plan r (facts_at t r).opened (is_some (facts_at t r).stage) (facts_at t r).held z (has_come s.time r.start) (facts_at s r).let_out) h.waiting
    ∙ (ap (λ z. form plan r (facts_at t r).opened (is_some (facts_at t r).stage) (facts_at t r).held (is_waiting plan t r) z (facts_at s r).let_out) h.come
    ∙ (ap (λ z. form plan r (facts_at t r).opened (is_some (facts_at t r).stage) (facts_at t r).held (is_waiting plan t r) (has_come t.time r.start) z) h.let_out
    ∙ sym (open-form plan t r (facts_at t r) h.runs.1)))))))

-- with any outcome
by-same : (plan : Plan) (s t : State) (r : Req) → SaysSame plan r s t → (o : Option Outcome) → status_by plan s r (facts_at s r) o ≡ status_by plan t r (facts_at t r) o
by-same plan s t r h None = open-same plan s t r h
by-same plan s t r h (Some o) = refl

-- the status is the same where these facts are
says-status : (plan : Plan) (s t : State) (r : Req) → SaysSame plan r s t → status_of plan s r ≡ status_of plan t r
unfolding status_of
says-status plan s t r h =
    ap (λ b. then_some b (status_by plan s r (facts_at s r) (facts_at s r).outcome)) h.entered
    ∙ (ap (λ o. then_some (facts_at t r).entered (status_by plan s r (facts_at s r) o)) h.outcome
    ∙ ap (λ x. then_some (facts_at t r).entered x) (by-same plan s t r h (facts_at t r).outcome))

-- these facts are the same of each request
says-same : (plan : Plan) (readings : List Reading) (a b : List Event) (r : Req) → AreFinal plan readings a b → Has plan.requests r → SaysSame plan r (state plan a) (state plan b)
unfolding facts_of state is_entered
says-same plan readings a b r f hr =
    let p = facts_at-state plan a r hr in
    let q = facts_at-state plan b r hr in
    let g : AreFinal plan readings b a = turned plan readings a b f in
    record {
      entered = ap (λ x. x.entered) p ∙ (same-test _ _ ((goes plan readings a b f).commands r.command) ((goes plan readings b a g).commands r.command) ∙ sym (ap (λ x. x.entered) q));
      outcome = ap (λ x. x.outcome) p ∙ (outcome-same plan readings a b r f hr ∙ sym (ap (λ x. x.outcome) q));
      runs = (f.one.rest.no_run r hr, f.another.rest.no_run r hr);
      opened = opened-state plan a r hr ∙ (same-test _ _ (opened-goes plan readings a b r f hr) (opened-goes plan readings b a r g hr) ∙ sym (opened-state plan b r hr));
      stage = ap is_some (current-at plan a r hr) ∙ (same-test _ _ (current-goes plan readings a b r f hr) (current-goes plan readings b a r g hr) ∙ sym (ap is_some (current-at plan b r hr)));
      held = ap (λ x. x.held) p ∙ (held-not plan a r f.one.calm.submits ∙ sym (ap (λ x. x.held) q ∙ held-not plan b r f.another.calm.submits));
      let_out = let_out-state plan a r hr ∙ (let-not plan readings a r f.one.steady hr f.one.calm f.one.rest
          ∙ sym (let_out-state plan b r hr ∙ let-not plan readings b r f.one.steady hr f.another.calm f.another.rest));
      waiting = is_waiting-state plan a r ∙ (waits-same plan readings a b r f ∙ sym (is_waiting-state plan b r));
      come = come-same plan readings a b r f;
    }

-- the status of each request is the same
pub status-same : (plan : Plan) (readings : List Reading) (a b : List Event) (r : Req) → AreFinal plan readings a b → Has plan.requests r → status_of plan (state plan a) r ≡ status_of plan (state plan b) r
status-same plan readings a b r f hr = says-status plan (state plan a) (state plan b) r (says-same plan readings a b r f hr)
