-- What holds of the stages of a set at each position: each that began is the current one, or has ended and led on.
use Rattle.std.proofs.Common.{◌≡◌, ◌⊎◌, ℕ, Bool, true, false, ◌&&◌, ◌||◌, ◌==◌, List, [], ◌∷◌, Option, None, Some, is_some, refl, sym, ◌∙◌, ap, subst, inl, inr, arith}
use Rattle.std.proofs.lemmas.Bool.{and_from, and_left, and_parts, cases_Bool, cond-true, le-leb, eqb-true, or_cases, or_left, or_right}
use Rattle.conc_types.specs.declared.event.Event.{Event}
use Rattle.conc_types.specs.declared.event.Event.TheVariants as event
use Rattle.conc_types.specs.declared.event.Outcome.{Outcome}
use Rattle.conc_types.specs.declared.event.RequestId.{RequestId}
use Rattle.conc_types.specs.declared.plan.Plan.{Plan}
use Rattle.conc_types.specs.declared.plan.Req.{Req}
use Rattle.conc_types.specs.declared.script.Reading.{Reading}
use Rattle.conc_types.specs.Words.{is_between}
use Rattle.conc_base_law.specs.Facts.{completes, completion, current_stage, was_completed}
use Rattle.conc_base_law.specs.Kinds.{begins_stage, closes}
use Rattle.conc_base_law.specs.Before.{occurs}
use Rattle.conc_base_law.specs.Stages.{has_ended, next_stage, set_outcome}
use Rattle.conc_base_law.specs.State.{state}
use Rattle.conc_base_law.specs.Words.{Has, id_eq}
use Rattle.conc_base_law.proofs.Comes.{close_comes}
use Rattle.conc_base_law.proofs.Completed.{opened_open}
use Rattle.conc_base_law.proofs.EqualEvents.{eqb-refl, id_same}
use Rattle.conc_base_law.proofs.Links.{set_step-later}
use Rattle.conc_base_law.proofs.OpenSets.{open_not_completed}
use Rattle.conc_base_law.proofs.Calm.{Calm, calm-before, calm-follows}
use Rattle.conc_base_law.proofs.Causes.{close_step, stage_step}
use Rattle.conc_base_law.proofs.Endings.{closed_no_stage, completion-more, completion-new}
use Rattle.conc_base_law.proofs.Chains.{begun-bits, close_from, FromStage, grow, has_stage-same, has_stage-occurs, same-ended, same-next, same-outcome, SameOutcomes, set_outcome-same, stage_from}

-- ---- one event

-- the event is no step of the set, or a stage, or a close
abbrev is_step : RequestId → Event → Bool
is_step set (event.Stage s k) = id_eq s set
is_step set (event.CloseSet s o) = id_eq s set
is_step set _ = false

data StepKind (set : RequestId) (e : Event) : Type 0 where
  kind_stage : (k : ℕ) → e ≡ event.Stage set k → StepKind set e
  kind_close : (o : Outcome) → e ≡ event.CloseSet set o → StepKind set e
  kind_other : is_step set e ≡ false → StepKind set e

-- each event is one of the three
step_kind : (set : RequestId) (e : Event) → StepKind set e
step_kind set (event.Stage s k) = elim (cases_Bool (id_eq s set)) [
  | inl t ↦ kind_stage k (ap (λ z. event.Stage z k) (id_same s set t))
  | inr f ↦ kind_other f
]
step_kind set (event.CloseSet s o) = elim (cases_Bool (id_eq s set)) [
  | inl t ↦ kind_close o (ap (λ z. event.CloseSet z o) (id_same s set t))
  | inr f ↦ kind_other f
]
step_kind set _ = kind_other refl

-- any other event keeps the current stage
other-current : (past : List Event) (set : RequestId) (e : Event) → is_step set e ≡ false → current_stage (e ∷ past) set ≡ current_stage past set
unfolding current_stage
other-current past set (event.Stage s k) h = rw h refl
other-current past set _ h = refl

-- it begins no stage
other-begins : (set : RequestId) (k : ℕ) (e : Event) → is_step set e ≡ false → begins_stage set k e ≡ false
other-begins set k (event.Stage s j) h = and_left _ _ h
other-begins set k _ h = refl

-- it closes nothing
other-closes : (set : RequestId) (e : Event) → is_step set e ≡ false → closes set e ≡ false
other-closes set (event.CloseSet s o) h = h
other-closes set _ h = refl

-- a stage that begins is the current one
stage-current : (past : List Event) (set : RequestId) (k : ℕ) → current_stage (event.Stage set k ∷ past) set ≡ Some k
unfolding current_stage
stage-current past set k = rw (eqb-refl set.number) refl

-- a close keeps the current stage
close-current : (past : List Event) (set : RequestId) (o : Outcome) → current_stage (event.CloseSet set o ∷ past) set ≡ current_stage past set
unfolding current_stage
close-current past set o = refl

-- ---- all events

-- a stage that has begun is the current one, or has ended and led on to one that has begun
pub data Leads (plan : Plan) (past : List Event) (set : Req) (k : ℕ) : Type 0 where
  leads_last : current_stage past set.number ≡ Some k → Leads plan past set k
  leads_on_to : (n : ℕ) → has_ended plan (state plan past) set k ≡ true → next_stage plan (state plan past) set k ≡ Some n
      → occurs (begins_stage set.number n) past ≡ true → Leads plan past set k

-- a set that was closed has the outcome of its stages
pub record IsClosed (plan : Plan) (past : List Event) (set : Req) : Type 0 where
  pub last : ℕ
  pub from : FromStage plan past set last
  pub none : next_stage plan (state plan past) set last ≡ None
  pub outcome : completion plan past set ≡ Some (set_outcome plan (state plan past) set last)

pub record Chain (plan : Plan) (past : List Event) (set : Req) : Type 0 where
  pub within : (k : ℕ) → occurs (begins_stage set.number k) past ≡ true → is_between 1 64 k ≡ true
  pub first : (k : ℕ) → current_stage past set.number ≡ Some k → occurs (begins_stage set.number 1) past ≡ true
  pub begun : (k : ℕ) → current_stage past set.number ≡ Some k → occurs (begins_stage set.number k) past ≡ true
  pub some : (k : ℕ) → occurs (begins_stage set.number k) past ≡ true → is_some (current_stage past set.number) ≡ true
  pub leads : (k : ℕ) → occurs (begins_stage set.number k) past ≡ true → Leads plan past set k
  pub closed : occurs (closes set.number) past ≡ true → IsClosed plan past set

-- where the current stage has ended each that began has
pub all_ended : (plan : Plan) (past : List Event) (set : Req) (j : ℕ) → Chain plan past set → FromStage plan past set j → (k : ℕ) → occurs (begins_stage set.number k) past ≡ true
    → has_ended plan (state plan past) set k ≡ true
all_ended plan past set j c f k b = by (c.leads k b) where
  by : Leads plan past set k → has_ended plan (state plan past) set k ≡ true
  by (leads_last l) = let e : Some j ≡ Some k = sym f.current ∙ l in let s : j ≡ k = cc in subst (λ z. has_ended plan (state plan past) set z ≡ true) s f.ended
  by (leads_on_to n h m i) = h

-- an event that begins no stage of the set keeps its outcome, where its current stage has ended
outcome-kept : (plan : Plan) (past : List Event) (set : Req) (e : Event) (j : ℕ) → Has plan.requests set → Chain plan past set → FromStage plan past set j
    → ((k : ℕ) → begins_stage set.number k e ≡ false) → set_outcome plan (state plan past) set j ≡ set_outcome plan (state plan (e ∷ past)) set j
outcome-kept plan past set e j hs c f never =
    set_outcome-same plan set (state plan past) (state plan (e ∷ past)) j
    (λ k. begun-bits plan past set k hs
    ∙ (has_stage-same past (e ∷ past) set.number (λ i. sym (ap (λ b. b || occurs (begins_stage set.number i) past) (never i))) k
    ∙ sym (begun-bits plan (e ∷ past) set k hs)))
    (λ k b. let i = has_stage-occurs past set.number k (sym (begun-bits plan past set k hs) ∙ b) in
    same-outcome plan set past (e ∷ past) k (grow plan past set k e (all_ended plan past set j c f k i)))
    (same-outcome plan set past (e ∷ past) j (grow plan past set j e f.ended))

-- what led on leads on
leads-kept : (plan : Plan) (past : List Event) (set : Req) (e : Event) (k : ℕ) → current_stage (e ∷ past) set.number ≡ current_stage past set.number → Leads plan past set k → Leads plan (e ∷ past) set k
leads-kept plan past set e k same (leads_last l) = leads_last (same ∙ l)
leads-kept plan past set e k same (leads_on_to n h m b) =
    let g : SameOutcomes plan set past (e ∷ past) k = grow plan past set k e h in
    leads_on_to n (sym (same-ended plan set past (e ∷ past) k g) ∙ h) (sym (same-next plan set past (e ∷ past) k g) ∙ m) (or_right _ _ b)

-- a current stage that has ended stays so
from-kept : (plan : Plan) (past : List Event) (set : Req) (e : Event) (j : ℕ) → current_stage (e ∷ past) set.number ≡ current_stage past set.number → FromStage plan past set j → FromStage plan (e ∷ past) set j
from-kept plan past set e j same f = record {
  current = same ∙ f.current;
  ended = sym (same-ended plan set past (e ∷ past) j (grow plan past set j e f.ended)) ∙ f.ended;
}

-- it leads to the same stage
next-kept : (plan : Plan) (past : List Event) (set : Req) (e : Event) (j : ℕ) (n : Option ℕ) → FromStage plan past set j → next_stage plan (state plan past) set j ≡ n → next_stage plan (state plan (e ∷ past)) set j ≡ n
next-kept plan past set e j n f h = sym (same-next plan set past (e ∷ past) j (grow plan past set j e f.ended)) ∙ h

-- an event that is no step of the set
chain-other : (plan : Plan) (past : List Event) (set : Req) (e : Event) → Has plan.requests set → Chain plan past set → is_step set.number e ≡ false → Chain plan (e ∷ past) set
chain-other plan past set e hs c h =
    let same = other-current past set.number e h in
    let old : (k : ℕ) → occurs (begins_stage set.number k) (e ∷ past) ≡ true → occurs (begins_stage set.number k) past ≡ true =
    λ k b. sym (ap (λ x. x || occurs (begins_stage set.number k) past) (other-begins set.number k e h)) ∙ b in
    record {
      within = λ k b. c.within k (old k b);
      first = λ k b. or_right _ _ (c.first k (sym same ∙ b));
      begun = λ k b. or_right _ _ (c.begun k (sym same ∙ b));
      some = λ k b. ap is_some same ∙ c.some k (old k b);
      leads = λ k b. leads-kept plan past set e k same (c.leads k (old k b));
      closed = λ k.
          let l = c.closed (sym (ap (λ x. x || occurs (closes set.number) past) (other-closes set.number e h)) ∙ k) in
          record {
            last = l.last;
            from = from-kept plan past set e l.last same l.from;
            none = next-kept plan past set e l.last None l.from l.none;
            outcome = completion-more plan past set e _ l.outcome ∙ ap (λ z. Some z) (outcome-kept plan past set e l.last hs c l.from (λ k. other-begins set.number k e h));
          };
    }

-- a stage of the set
stage-old : (past : List Event) (set : RequestId) (k i : ℕ) → occurs (begins_stage set i) (event.Stage set k ∷ past) ≡ true → (k ≡ i) ⊎ (occurs (begins_stage set i) past ≡ true)
stage-old past set k i h = elim (or_cases (id_eq set set && k == i) _ h) [
  | inl t ↦ inl (eqb-true k i (and_parts (id_eq set set) _ t).1)
  | inr b ↦ inr b
]

-- it has begun
stage-new : (past : List Event) (set : RequestId) (k : ℕ) → occurs (begins_stage set k) (event.Stage set k ∷ past) ≡ true
stage-new past set k = or_left _ _ (and_from _ _ (eqb-refl set.number) (eqb-refl k))

-- the current stage leads on to the stage that begins
leads-stage : (plan : Plan) (past : List Event) (set : Req) (k i : ℕ)
    → ((current_stage past set.number ≡ None) × (k ≡ 1)) ⊎ ((j : ℕ) × FromStage plan past set j × (next_stage plan (state plan past) set j ≡ Some k))
    → is_some (current_stage past set.number) ≡ true → Leads plan past set i → Leads plan (event.Stage set.number k ∷ past) set i
leads-stage plan past set k i (inl n) some l = let m : is_some {T = ℕ} None ≡ true = ap is_some (sym n.0) ∙ some in cc
leads-stage plan past set k i (inr f) some (leads_last l) =
    let e : Some f.0 ≡ Some i = sym f.1.current ∙ l in
    let s : f.0 ≡ i = cc in
    let ev = event.Stage set.number k in
    subst (λ z. Leads plan (ev ∷ past) set z) s
    (leads_on_to k (sym (same-ended plan set past (ev ∷ past) f.0 (grow plan past set f.0 ev f.1.ended)) ∙ f.1.ended)
    (next-kept plan past set ev f.0 (Some k) f.1 f.2) (stage-new past set.number k))
leads-stage plan past set k i (inr f) some (leads_on_to n h m b) =
    let ev = event.Stage set.number k in
    let g : SameOutcomes plan set past (ev ∷ past) i = grow plan past set i ev h in
    leads_on_to n (sym (same-ended plan set past (ev ∷ past) i g) ∙ h) (sym (same-next plan set past (ev ∷ past) i g) ∙ m) (or_right _ _ b)

-- a stage of the set keeps all that
chain-stage : (plan : Plan) (readings : List Reading) (past : List Event) (set : Req) (k : ℕ) → Has plan.requests set → Chain plan past set → Calm plan readings (event.Stage set.number k ∷ past)
    → Chain plan (event.Stage set.number k ∷ past) set
chain-stage plan readings past set k hs c d =
    let e = event.Stage set.number k in
    let step = stage_step plan past set k hs (calm-follows plan readings past e d) in
    let later = set_step-later plan (state plan past) set set.number k step in
    let here : is_between 1 64 k ≡ true = and_from _ _ (le-leb 1 k (omega (arith, later.0))) (le-leb k 64 later.1) in
    let cause = stage_from plan past set k hs step in
    record {
      within = λ i b. elim (stage-old past set.number k i b) [ inl s ↦ ap (is_between 1 64) (sym s) ∙ here | inr o ↦ c.within i o ];
      first = λ i b. elim cause [
        | inl n ↦ subst (λ z. occurs (begins_stage set.number z) (e ∷ past) ≡ true) n.1 (stage-new past set.number k)
        | inr f ↦ or_right _ _ (c.first f.0 f.1.current)
      ];
      begun = λ i b. let q : Some k ≡ Some i = sym (stage-current past set.number k) ∙ b in let s : k ≡ i = cc in
          subst (λ z. occurs (begins_stage set.number z) (e ∷ past) ≡ true) s (stage-new past set.number k);
      some = λ i b. ap is_some (stage-current past set.number k);
      leads = λ i b. elim (stage-old past set.number k i b) [
        | inl s ↦ leads_last (stage-current past set.number k ∙ ap (λ z. Some z) s)
        | inr o ↦ leads-stage plan past set k i cause (c.some i o) (c.leads i o)
      ];
      closed = λ h. absurd (closed_no_stage plan readings past set k hs d h);
    }

-- the close of the set
close-completes : (plan : Plan) (past : List Event) (set : Req) (o : Outcome) → completes plan past (completion plan past) set (event.CloseSet set.number o) ≡ Some o
unfolding completes
close-completes plan past set o = cond-true (id_eq set.number set.number) _ _ (eqb-refl set.number.number)

-- the close of the set keeps it too
chain-close : (plan : Plan) (readings : List Reading) (past : List Event) (set : Req) (o : Outcome) → Has plan.requests set → Chain plan past set → Calm plan readings (event.CloseSet set.number o ∷ past)
    → Chain plan (event.CloseSet set.number o ∷ past) set
chain-close plan readings past set o hs c d =
    let e = event.CloseSet set.number o in
    let m = calm-follows plan readings past e d in
    let b : Calm plan readings past = calm-before plan readings past e d in
    let f = close_from plan past set o hs (close_step plan past set o hs m) in
    let same = close-current past set.number o in
    let fresh : was_completed plan past set ≡ false = open_not_completed plan past set hs b.so_far (opened_open plan past set hs (close_comes plan None past set.number o m)) in
    record {
      within = λ k x. c.within k x;
      first = λ k x. c.first k (sym same ∙ x);
      begun = λ k x. c.begun k (sym same ∙ x);
      some = λ k x. ap is_some same ∙ c.some k x;
      leads = λ k x. leads-kept plan past set e k same (c.leads k x);
      closed = λ k. record {
        last = f.0;
        from = from-kept plan past set e f.0 same f.1;
        none = next-kept plan past set e f.0 None f.1 f.2;
        outcome = completion-new plan past set e fresh ∙ (close-completes plan past set o ∙ ap (λ z. Some z) (f.3 ∙ outcome-kept plan past set e f.0 hs c f.1 (λ k. refl)));
      };
    }

-- before the first event
no_current : (set : RequestId) (k : ℕ) → current_stage [] set ≡ Some k → ⊥
unfolding current_stage
no_current set k h = cc

-- all that holds at each position
pub chain : (plan : Plan) (readings : List Reading) (past : List Event) (set : Req) → Has plan.requests set → Calm plan readings past → Chain plan past set
chain plan readings [] set hs c = record {
  within = λ k b. cc;
  first = λ k b. absurd (no_current set.number k b);
  begun = λ k b. absurd (no_current set.number k b);
  some = λ k b. cc;
  leads = λ k b. cc;
  closed = λ b. cc;
}
chain plan readings (e ∷ past) set hs c =
    let b : Calm plan readings past = calm-before plan readings past e c in
    let d : Chain plan past set = chain plan readings past set hs b in
    elim (step_kind set.number e) [
      | kind_stage k s ↦ subst (λ z. Chain plan (z ∷ past) set) (sym s) (chain-stage plan readings past set k hs d (subst (λ z. Calm plan readings (z ∷ past)) s c))
      | kind_close o s ↦ subst (λ z. Chain plan (z ∷ past) set) (sym s) (chain-close plan readings past set o hs d (subst (λ z. Calm plan readings (z ∷ past)) s c))
      | kind_other n ↦ chain-other plan past set e hs d n
    ]
