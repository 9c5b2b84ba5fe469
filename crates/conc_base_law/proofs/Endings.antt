-- How a request is completed: by its end, by its close, or by the close of its set before its stage began.
use Rattle.std.proofs.Common.{◌≡◌, ◌⊎◌, ℕ, Bool, true, false, not, ◌&&◌, ◌||◌, ◌==◌, List, [], ◌∷◌, Option, None, Some, is_some, if◌then◌else◌, refl, sym, ◌∙◌, ap, subst, inl, inr}
use Rattle.std.specs.Bool.{then_some}
use Rattle.std.specs.Option.{option_and_then, option_map_or, option_or}
use Rattle.std.proofs.lemmas.Bool.{and_from, and_parts, both_ways, cases_Bool, cond-false, eq-eqb, not_from_false, or_cases, or_from, or_left, or_right}
use Rattle.conc_types.specs.declared.event.Event.{Event}
use Rattle.conc_types.specs.declared.event.Event.TheVariants as event
use Rattle.conc_types.specs.declared.event.Extent.{Extent}
use Rattle.conc_types.specs.declared.event.Outcome.{Outcome}
use Rattle.conc_types.specs.declared.event.Outcome.TheVariants as outcome
use Rattle.conc_types.specs.declared.event.RequestId.{RequestId}
use Rattle.conc_types.specs.declared.plan.Plan.{Plan}
use Rattle.conc_types.specs.declared.plan.Req.{Req}
use Rattle.conc_types.specs.declared.script.Reading.{Reading}
use Rattle.conc_types.specs.Plans.{request}
use Rattle.conc_types.specs.Stages.{has_stage, with_stage}
use Rattle.conc_types.specs.Words.{some_and}
use Rattle.conc_base_law.specs.Facts.{cancels, completes, completion, is_open, stages_begun, waits_for_stage, was_completed}
use Rattle.conc_base_law.specs.Kinds.{closes, ends, opens}
use Rattle.conc_base_law.specs.Law.{may_follow}
use Rattle.conc_base_law.specs.Before.{occurs, occurs_since}
use Rattle.conc_base_law.specs.Plans.{parent}
use Rattle.conc_base_law.specs.Words.{Has, id_eq, is_set}
use Rattle.conc_base_law.proofs.Comes.{stage_comes, close_comes}
use Rattle.conc_base_law.proofs.Completed.{closed_set, let_no_set, let_not_completed, opened_open, waits-more, was_completed-by, was_completed-more}
use Rattle.conc_base_law.proofs.EqualEvents.{eqb-refl, id_same}
use Rattle.conc_base_law.proofs.Numbering.{found}
use Rattle.conc_base_law.proofs.OpenSets.{open_not_completed, open_set}
use Rattle.conc_base_law.proofs.Options.{or-some, then_some-some, some_and-some}
use Rattle.conc_base_law.proofs.RunningIsLet.{runs_let}
use Rattle.conc_base_law.proofs.Stops.{end_runs}
use Rattle.conc_base_law.proofs.Calm.{Calm, calm-before, calm-follows, cancels-not, no_interrupt, since-occurs}
use Rattle.conc_base_law.proofs.Causes.{end_report, HasReport}

-- ---- what completion keeps

-- an outcome stays
pub completion-more : (plan : Plan) (past : List Event) (r : Req) (e : Event) (o : Outcome) → completion plan past r ≡ Some o → completion plan (e ∷ past) r ≡ Some o
unfolding completion
completion-more plan past r e o h = ap (λ c. option_or c (completes plan past (completion plan past) r e)) h

-- what was not completed is completed by the event
pub completion-new : (plan : Plan) (past : List Event) (r : Req) (e : Event) → was_completed plan past r ≡ false → completion plan (e ∷ past) r ≡ completes plan past (completion plan past) r e
unfolding was_completed completion
completion-new plan past r e h = by (completion plan past r) h where
  by : (o : Option Outcome) → is_some o ≡ false → option_or o (completes plan past (completion plan past) r e) ≡ completes plan past (completion plan past) r e
  by None k = refl
  by (Some x) k = cc

-- a completed request has an outcome
pub completed-some : (plan : Plan) (past : List Event) (r : Req) → was_completed plan past r ≡ true → (o : Outcome) × (completion plan past r ≡ Some o)
unfolding was_completed
completed-some plan past r h = by (completion plan past r) h where
  by : (c : Option Outcome) → is_some c ≡ true → (o : Outcome) × (c ≡ Some o)
  by None k = cc
  by (Some o) k = (o, refl)

-- ---- an end

-- an event that ends r
pub ends-event : (r : RequestId) (e : Event) → ends r e ≡ true → (o : Outcome) × (x : Option Extent) × (e ≡ event.Ended r o x)
ends-event r (event.Ended q o x) h = (o, x, ap (λ z. event.Ended z o x) (id_same q r h))
ends-event r _ h = cc

-- it is completed by it, with the outcome
ended-here : (plan : Plan) (past : List Event) (r : Req) (o : Outcome) (x : Option Extent) → was_completed plan past r ≡ false → completion plan (event.Ended r.number o x ∷ past) r ≡ Some o
unfolding completes
ended-here plan past r o x h = completion-new plan past r (event.Ended r.number o x) h ∙ ap (λ b. then_some b o) (eqb-refl r.number.number)

-- r is completed with the outcome of its report
pub record IsEnded (plan : Plan) (past : List Event) (r : Req) : Type 0 where
  pub outcome : Outcome
  pub report : HasReport plan r outcome
  pub is : completion plan past r ≡ Some outcome

-- a request that ended is so
pub ended : (plan : Plan) (readings : List Reading) (past : List Event) (r : Req) → Has plan.requests r → Calm plan readings past → occurs (ends r.number) past ≡ true → IsEnded plan past r
ended plan readings [] r hr c h = cc
ended plan readings (e ∷ past) r hr c h = elim (or_cases (ends r.number e) _ h) [
  | inl k ↦
      let p : (o : Outcome) × (x : Option Extent) × (e ≡ event.Ended r.number o x) = ends-event r.number e k in
      let d : Calm plan readings (event.Ended r.number p.0 p.1 ∷ past) = subst (λ z. Calm plan readings (z ∷ past)) p.2 c in
      let b : Calm plan readings past = calm-before plan readings past e c in
      let run = end_runs plan None past r p.0 p.1 hr (calm-follows plan readings past (event.Ended r.number p.0 p.1) d) in
      let live = runs_let plan past r hr b.so_far run in
      record {
        outcome = p.0;
        report = end_report plan readings past r p.0 p.1 hr d;
        is = ap (λ z. completion plan (z ∷ past) r) p.2 ∙ ended-here plan past r p.0 p.1 (let_not_completed plan past r hr b.so_far live);
      }
  | inr k ↦
      let p : IsEnded plan past r = ended plan readings past r hr (calm-before plan readings past e c) k in
      record { outcome = p.outcome; report = p.report; is = completion-more plan past r e p.outcome p.is }
]

-- ---- a close

-- an event that closes the set
pub closes-event : (s : RequestId) (e : Event) → closes s e ≡ true → (o : Outcome) × (e ≡ event.CloseSet s o)
closes-event s (event.CloseSet q o) h = (o, ap (λ z. event.CloseSet z o) (id_same q s h))
closes-event s _ h = cc

-- a set that was closed is completed
pub closed_completed : (plan : Plan) (past : List Event) (s : Req) → occurs (closes s.number) past ≡ true → was_completed plan past s ≡ true
closed_completed plan [] s h = cc
closed_completed plan (e ∷ past) s h = elim (or_cases (closes s.number e) _ h) [
  | inl k ↦ closed_set plan past s e k
  | inr k ↦ was_completed-more plan past s e (closed_completed plan past s k)
]

-- so it is not open
pub closed_not_open : (plan : Plan) (readings : List Reading) (past : List Event) (s : Req) → Has plan.requests s → Calm plan readings past → occurs (closes s.number) past ≡ true → is_open past s ≡ false
closed_not_open plan readings past s hs c h = elim (cases_Bool (is_open past s)) [
  | inl t ↦ absurd (both_ways _ (open_not_completed plan past s hs c.so_far t) (closed_completed plan past s h))
  | inr f ↦ f
]

-- a set that was opened is open, or was closed
pub opened_or_closed : (past : List Event) (s : Req) → is_set s.item ≡ true → occurs (opens s.number) past ≡ true → (is_open past s ≡ true) ⊎ (occurs (closes s.number) past ≡ true)
unfolding is_open
opened_or_closed past s set h = elim (by past h) [ inl o ↦ inl (and_from _ _ set o) | inr c ↦ inr c ] where
  by : (past : List Event) → occurs (opens s.number) past ≡ true
      → (occurs_since (λ _ e. opens s.number e) (λ _ e. closes s.number e) past ≡ true) ⊎ (occurs (closes s.number) past ≡ true)
  by [] h = cc
  by (e ∷ past) h = elim (cases_Bool (closes s.number e)) [
    | inl c ↦ inr (or_left _ _ c)
    | inr n ↦ elim (or_cases (opens s.number e) _ h) [
      | inl o ↦ inl (or_left _ _ o)
      | inr l ↦ elim (by past l) [ inl o ↦ inl (or_right _ _ (and_from _ _ (not_from_false _ n) o)) | inr c ↦ inr (or_right _ _ c) ]
    ]
  ]

-- a set that is open was opened
pub open_opened : (past : List Event) (s : Req) → is_open past s ≡ true → occurs (opens s.number) past ≡ true
unfolding is_open
open_opened past s h = since-occurs (opens s.number) (λ _ e. closes s.number e) past (and_parts (is_set s.item) _ h).1

-- a set that was closed was open
pub closed_was_open : (plan : Plan) (readings : List Reading) (past : List Event) (s : Req) → Has plan.requests s → Calm plan readings past → occurs (closes s.number) past ≡ true
    → (is_set s.item ≡ true) × (occurs (opens s.number) past ≡ true)
closed_was_open plan readings [] s hs c h = cc
closed_was_open plan readings (e ∷ past) s hs c h = elim (or_cases (closes s.number e) _ h) [
  | inl k ↦
      let p : (o : Outcome) × (e ≡ event.CloseSet s.number o) = closes-event s.number e k in
      let m = subst (λ d. may_follow plan None past d ≡ true) p.1 (calm-follows plan readings past e c) in
      let o : is_open past s ≡ true = opened_open plan past s hs (close_comes plan None past s.number p.0 m) in
      (open_set past s o, or_right _ _ (open_opened past s o))
  | inr k ↦
      let p = closed_was_open plan readings past s hs (calm-before plan readings past e c) k in
      (p.0, or_right _ _ p.1)
]

-- what was closed is a set
pub closed_set_item : (plan : Plan) (readings : List Reading) (past : List Event) (s : Req) → Has plan.requests s → Calm plan readings past → occurs (closes s.number) past ≡ true → is_set s.item ≡ true
closed_set_item plan readings past s hs c h = (closed_was_open plan readings past s hs c h).0

-- it was opened
pub closed_opened : (plan : Plan) (readings : List Reading) (past : List Event) (s : Req) → Has plan.requests s → Calm plan readings past → occurs (closes s.number) past ≡ true → occurs (opens s.number) past ≡ true
closed_opened plan readings past s hs c h = (closed_was_open plan readings past s hs c h).1

-- a request that ended is no set
pub ended_item : (plan : Plan) (readings : List Reading) (past : List Event) (r : Req) → Has plan.requests r → Calm plan readings past → occurs (ends r.number) past ≡ true → is_set r.item ≡ false
ended_item plan readings [] r hr c h = cc
ended_item plan readings (e ∷ past) r hr c h = elim (or_cases (ends r.number e) _ h) [
  | inl k ↦
      let p : (o : Outcome) × (x : Option Extent) × (e ≡ event.Ended r.number o x) = ends-event r.number e k in
      let b : Calm plan readings past = calm-before plan readings past e c in
      let m = subst (λ d. may_follow plan None past d ≡ true) p.2 (calm-follows plan readings past e c) in
      let_no_set plan past r hr b.so_far (runs_let plan past r hr b.so_far (end_runs plan None past r p.0 p.1 hr m))
  | inr k ↦ ended_item plan readings past r hr (calm-before plan readings past e c) k
]

-- ---- a member whose set closed before its stage began

-- the close of its set stands
abbrev pub parent_closed : List Event → Req → Bool
parent_closed past r = some_and (λ p. occurs (closes p) past) r.parent

-- a stage begins for r's set
abbrev stages_of_parent : Req → Event → Bool
stages_of_parent r (event.Stage s k) = some_and (id_eq s) r.parent
stages_of_parent r _ = false

-- where no stage of its set begins it waits on
waits-on : (plan : Plan) (past : List Event) (r : Req) (e : Event) → stages_of_parent r e ≡ false → waits_for_stage plan past r ≡ true → waits_for_stage plan (e ∷ past) r ≡ true
unfolding waits_for_stage parent stages_begun
waits-on plan past r (event.Stage s k) h w = by r.parent h w where
  at : (id : RequestId) (o : Option Req) → request plan id ≡ o → id_eq s id ≡ false
      → some_and (λ set. not (has_stage (stages_begun past set.number) r.stage)) o ≡ true
      → some_and (λ set. not (has_stage (option_map_or (λ stage. with_stage (stages_begun past set.number) stage) (then_some (id_eq s set.number) k) (stages_begun past set.number)) r.stage)) o ≡ true
  at id None is n w = w
  at id (Some set) is n w =
      let same : id_eq s set.number ≡ false = ap (λ m. s.number == m) (found plan id set is).0 ∙ n in
      rw same w

  by : (o : Option RequestId) → some_and (id_eq s) o ≡ false
      → some_and (λ set. not (has_stage (stages_begun past set.number) r.stage)) (option_and_then (request plan) o) ≡ true
      → some_and (λ set. not (has_stage (option_map_or (λ stage. with_stage (stages_begun past set.number) stage) (then_some (id_eq s set.number) k) (stages_begun past set.number)) r.stage)) (option_and_then (request plan) o) ≡ true
  by None n w = w
  by (Some id) n w = at id (request plan id) refl n w
waits-on plan past r _ h w = w

-- one that waits waited before
pub waited : (plan : Plan) (past : List Event) (r : Req) (e : Event) → waits_for_stage plan (e ∷ past) r ≡ true → waits_for_stage plan past r ≡ true
waited plan past r e h = elim (cases_Bool (waits_for_stage plan past r)) [
  | inl t ↦ t
  | inr f ↦ absurd (both_ways _ (waits-more plan past r e f) h)
]

-- the set of a member
pub record IsParent (plan : Plan) (r : Req) (set : Req) : Type 0 where
  pub element : Has plan.requests set
  pub is : parent plan r ≡ Some set
  pub number : r.parent ≡ Some set.number

-- one that waits has a set
pub waits-parent : (plan : Plan) (past : List Event) (r : Req) → waits_for_stage plan past r ≡ true → (set : Req) × IsParent plan r set
unfolding waits_for_stage parent
waits-parent plan past r h = by r.parent refl h where
  by : (o : Option RequestId) → r.parent ≡ o → some_and (λ set. not (has_stage (stages_begun past set.number) r.stage)) (option_and_then (request plan) o) ≡ true → (set : Req) × IsParent plan r set
  by None is w = cc
  by (Some id) is w =
      let p : (set : Req) × (request plan id ≡ Some set) × (not (has_stage (stages_begun past set.number) r.stage) ≡ true) = some_and-some _ (request plan id) w in
      let f : (p.0.number.number ≡ id.number) × Has plan.requests p.0 = found plan id p.0 p.1 in
      let n : p.0.number ≡ id = id_same p.0.number id (eq-eqb _ _ f.0) in
      (p.0, record { element = f.1; is = ap (option_and_then (request plan)) is ∙ p.1; number = is ∙ ap (λ z. Some z) (sym n) })

-- no stage begins of a set that was closed
pub closed_no_stage : (plan : Plan) (readings : List Reading) (past : List Event) (set : Req) (k : ℕ) → Has plan.requests set → Calm plan readings (event.Stage set.number k ∷ past)
    → occurs (closes set.number) past ≡ true → ⊥
closed_no_stage plan readings past set k hs c h =
    let b : Calm plan readings past = calm-before plan readings past (event.Stage set.number k) c in
    both_ways _ (closed_not_open plan readings past set hs b h)
    (opened_open plan past set hs (stage_comes plan None past set.number k (calm-follows plan readings past (event.Stage set.number k) c)))

-- one that waits when its set is closed waits on
pub closed_waits : (plan : Plan) (readings : List Reading) (past : List Event) (r : Req) (e : Event) → Calm plan readings (e ∷ past) → parent_closed past r ≡ true → waits_for_stage plan past r ≡ true
    → waits_for_stage plan (e ∷ past) r ≡ true
closed_waits plan readings past r e c h w = elim (cases_Bool (stages_of_parent r e)) [
  | inr f ↦ waits-on plan past r e f w
  | inl t ↦
      let p : (set : Req) × IsParent plan r set = waits-parent plan past r w in
      let k : (k : ℕ) × (e ≡ event.Stage p.0.number k) = by e p.0.number (ap (λ o. stages_of_parent (record r { parent = o }) e) (sym p.1.number) ∙ t) in
      let closed : occurs (closes p.0.number) past ≡ true = ap (some_and (λ z. occurs (closes z) past)) (sym p.1.number) ∙ h in
      absurd (closed_no_stage plan readings past p.0 k.0 p.1.element (subst (λ z. Calm plan readings (z ∷ past)) k.1 c) closed)
] where
  by : (e : Event) (s : RequestId) → stages_of_parent (record r { parent = Some s }) e ≡ true → (k : ℕ) × (e ≡ event.Stage s k)
  by (event.Stage q k) s t = (k, ap (λ z. event.Stage z k) (id_same q s t))
  by _ s t = cc

-- the close stays
parent_closed-more : (past : List Event) (r : Req) (e : Event) → parent_closed past r ≡ true → parent_closed (e ∷ past) r ≡ true
parent_closed-more past r e h = by r.parent h where
  by : (o : Option RequestId) → some_and (λ p. occurs (closes p) past) o ≡ true → some_and (λ p. occurs (closes p) (e ∷ past)) o ≡ true
  by None k = k
  by (Some p) k = or_right _ _ k

-- it is completed
close_cancels : (plan : Plan) (past : List Event) (r : Req) (s : RequestId) (o : Outcome) → some_and (id_eq s) r.parent ≡ true → waits_for_stage plan past r ≡ true
    → was_completed plan (event.CloseSet s o ∷ past) r ≡ true
unfolding completes
close_cancels plan past r s o p w = was_completed-by plan past r (event.CloseSet s o) (by (id_eq s r.number)) where
  by : (b : Bool) → is_some (if b then Some o else then_some (some_and (id_eq s) r.parent && waits_for_stage plan past r) outcome.Cancelled) ≡ true
  by true = refl
  by false = ap (λ c. is_some (then_some c outcome.Cancelled)) (and_from _ _ p w)

-- one that waits when its set, by its number, is closed is completed
cancelled-by : (plan : Plan) (past : List Event) (r : Req) (s : RequestId) → r.parent ≡ Some s → occurs (closes s) past ≡ true → waits_for_stage plan past r ≡ true → was_completed plan past r ≡ true
cancelled-by plan [] r s n h w = cc
cancelled-by plan (e ∷ past) r s n h w = elim (or_cases (closes s e) _ h) [
  | inl k ↦
      let p : (o : Outcome) × (e ≡ event.CloseSet s o) = closes-event s e k in
      let own : some_and (id_eq s) r.parent ≡ true = ap (some_and (id_eq s)) n ∙ eqb-refl s.number in
      ap (λ z. was_completed plan (z ∷ past) r) p.1 ∙ close_cancels plan past r s p.0 own (waited plan past r e w)
  | inr k ↦ was_completed-more plan past r e (cancelled-by plan past r s n k (waited plan past r e w))
]

-- one that waits when its set is closed is completed
pub cancelled_completed : (plan : Plan) (past : List Event) (r : Req) → parent_closed past r ≡ true → waits_for_stage plan past r ≡ true → was_completed plan past r ≡ true
cancelled_completed plan past r h w =
    let p : (set : Req) × IsParent plan r set = waits-parent plan past r w in
    cancelled-by plan past r p.0.number p.1.number (ap (some_and (λ z. occurs (closes z) past)) (sym p.1.number) ∙ h) w

-- ---- the three ways

-- r is completed in one of these ways
pub data Way (plan : Plan) (past : List Event) (r : Req) (o : Outcome) : Type 0 where
  way_end : occurs (ends r.number) past ≡ true → Way plan past r o
  way_close : occurs (closes r.number) past ≡ true → Way plan past r o
  way_cancel : parent_closed past r ≡ true → waits_for_stage plan past r ≡ true → o ≡ outcome.Cancelled → Way plan past r o

-- a way stays
way-more : (plan : Plan) (readings : List Reading) (past : List Event) (r : Req) (e : Event) (o : Outcome) → Calm plan readings (e ∷ past) → Way plan past r o → Way plan (e ∷ past) r o
way-more plan readings past r e o c (way_end h) = way_end (or_right _ _ h)
way-more plan readings past r e o c (way_close h) = way_close (or_right _ _ h)
way-more plan readings past r e o c (way_cancel h w k) = way_cancel (parent_closed-more past r e h) (closed_waits plan readings past r e c h w) k

-- what one event completes
way-new : (plan : Plan) (readings : List Reading) (past : List Event) (r : Req) (e : Event) (o : Outcome) → Calm plan readings (e ∷ past)
    → completes plan past (completion plan past) r e ≡ Some o → Way plan (e ∷ past) r o
unfolding completes
way-new plan readings past r (event.Ended q p x) o c h =
    let t : (id_eq q r.number ≡ true) × (p ≡ o) = then_some-some _ _ _ h in
    way_end (or_left _ _ t.0)
way-new plan readings past r (event.CloseSet s p) o c h = elim (cases_Bool (id_eq s r.number)) [
  | inl t ↦ way_close (or_left _ _ t)
  | inr f ↦
      let k : then_some (some_and (id_eq s) r.parent && waits_for_stage plan past r) outcome.Cancelled ≡ Some o = sym (cond-false (id_eq s r.number) _ _ f) ∙ h in
      let t : ((some_and (id_eq s) r.parent && waits_for_stage plan past r) ≡ true) × (outcome.Cancelled ≡ o) = then_some-some _ _ _ k in
      let u : (some_and (id_eq s) r.parent ≡ true) × (waits_for_stage plan past r ≡ true) = and_parts _ _ t.0 in
      way_cancel (by r.parent u.0) (waits-on plan past r (event.CloseSet s p) refl u.1) (sym t.1)
] where
  by : (q : Option RequestId) → some_and (id_eq s) q ≡ true → some_and (λ z. occurs (closes z) (event.CloseSet s p ∷ past)) q ≡ true
  by None k = cc
  by (Some z) k = or_left _ _ k
way-new plan readings past r (event.Interrupt q) o c h = absurd (no_interrupt plan readings past q c)
way-new plan readings past r (event.Command n) o c h =
    let t : ((cancels plan past (completion plan past) r (event.Command n) || some_and (λ set. cancels plan past (completion plan past) set (event.Command n)) (parent plan r)) ≡ true) × (outcome.Cancelled ≡ o) = then_some-some _ _ _ h in
    let never : (cancels plan past (completion plan past) r (event.Command n) || some_and (λ set. cancels plan past (completion plan past) set (event.Command n)) (parent plan r)) ≡ false =
    or_from _ _ (cancels-not plan past (completion plan past) r (event.Command n) c.submits) (by (parent plan r)) in
    absurd (both_ways _ never t.0) where
      by : (q : Option Req) → some_and (λ set. cancels plan past (completion plan past) set (event.Command n)) q ≡ false
      by None = refl
      by (Some set) = cancels-not plan past (completion plan past) set (event.Command n) c.submits
way-new plan readings past r _ o c h = cc

-- each completed request is completed in one of these ways
pub way : (plan : Plan) (readings : List Reading) (past : List Event) (r : Req) (o : Outcome) → Calm plan readings past → completion plan past r ≡ Some o → Way plan past r o
unfolding completion
way plan readings [] r o c h = cc
way plan readings (e ∷ past) r o c h = elim (or-some (completion plan past r) _ o h) [
  | inl k ↦ way-more plan readings past r e o c (way plan readings past r o (calm-before plan readings past e c) k)
  | inr k ↦ way-new plan readings past r e o c k
]
