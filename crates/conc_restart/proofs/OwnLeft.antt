-- How many events of its own a request still has in a life at most, and how the events lower it.
use Rattle.std.proofs.Common.{◌≡◌, ℕ, ◌+◌, ◌-◌, ◌<◌, ◌≤◌, Bool, true, false, if◌then◌else◌, List, ◌∷◌, length, Option, Some, refl, sym, ◌∙◌, ap, subst, inl, inr, arith}
use Rattle.std.specs.Prelude.{unwrap_or}
use Rattle.std.proofs.lemmas.Bool.{and_from, cases_Bool, cond-false, cond-true, or_left}
use Rattle.conc_types.specs.declared.event.Event.{Event}
use Rattle.conc_types.specs.declared.event.Event.TheVariants as event
use Rattle.conc_types.specs.declared.event.Outcome.{Outcome}
use Rattle.conc_types.specs.declared.facts.Facts.{Facts}
use Rattle.conc_types.specs.declared.plan.Plan.{Plan}
use Rattle.conc_types.specs.declared.plan.Req.{Req}
use Rattle.conc_types.specs.declared.script.Reading.{Reading}
use Rattle.conc_base_law.specs.Facts.{current_stage, facts_of, is_let, is_open, runs}
use Rattle.conc_base_law.specs.Law.{is_lawful_so_far, may_follow}
use Rattle.conc_base_law.specs.Next.{may_let}
use Rattle.conc_base_law.specs.Plans.{stages_of}
use Rattle.conc_base_law.specs.Remaining.{events_left}
use Rattle.conc_base_law.specs.Stages.{set_step}
use Rattle.conc_base_law.specs.State.{facts_at, is_completed, is_running, state}
use Rattle.conc_base_law.specs.Words.{Has, is_set}
use Rattle.conc_base_law.proofs.Comes.{close_comes, same_request, stage_comes}
use Rattle.conc_base_law.proofs.Completed.{closed_set, let_no_set, opened_open}
use Rattle.conc_base_law.proofs.Due.{IsStepped, stage_stepped}
use Rattle.conc_base_law.proofs.EqualEvents.{eqb-refl, id_same}
use Rattle.conc_base_law.proofs.FactsAt.{facts_at-state}
use Rattle.conc_base_law.proofs.Links.{set_step-later}
use Rattle.conc_base_law.proofs.LiveApart.{let_could, open_could}
use Rattle.conc_base_law.proofs.OpenSets.{open_not_completed, open_set}
use Rattle.conc_base_law.proofs.Others.{is_about}
use Rattle.conc_base_law.proofs.RunningIsLet.{runs_let, start_let}
use Rattle.conc_base_law.proofs.Stops.{end_runs, interrupt_runs}
use Rattle.conc_base_law.proofs.UsesUp.{could_not_completed, could_not_live, end_less, facts-completed, facts-opened, interrupt_less, left, let_less, start_less}
use Rattle.conc_restart.proofs.NextStage.{set_step-within}
use Rattle.conc_restart.proofs.SetsLeft.{set_left, set_left-completed, set_left-most, set_left-open, set_left-open-le, set_left-unopened}

-- a set has what its stages say, a program what the law's bound says
unfoldable pub own_left : Plan → List Event → Req → ℕ
own_left plan past r = if is_set r.item then set_left (length (stages_of plan r)) (facts_of plan past r) else left plan past r

-- of a set
pub own_left-set : (plan : Plan) (past : List Event) (r : Req) → is_set r.item ≡ true → own_left plan past r ≡ set_left (length (stages_of plan r)) (facts_of plan past r)
unfolding own_left
own_left-set plan past r set = cond-true (is_set r.item) _ _ set

-- of a program
pub own_left-program : (plan : Plan) (past : List Event) (r : Req) → is_set r.item ≡ false → own_left plan past r ≡ left plan past r
unfolding own_left
own_left-program plan past r set = cond-false (is_set r.item) _ _ set

-- the law's bound of a program is four at most
left-most : (r : Req) (f : Facts) → is_set r.item ≡ false → events_left r f ≤ 4
unfolding events_left
left-most r f set = rw set (by (is_completed f) (is_running f) f.started f.let_out) where
  by : (completed running started let_out : Bool)
      → (if completed then 0 else (if running then (if started then 1 else 4) else (if let_out then 2 else 3))) ≤ 4
  by true running started let_out = omega arith
  by false true true let_out = omega arith
  by false true false let_out = omega arith
  by false false started true = omega arith
  by false false started false = omega arith

-- four at most, and the stages of a set
pub own_left-most : (plan : Plan) (past : List Event) (r : Req) → own_left plan past r ≤ 4 + length (stages_of plan r)
own_left-most plan past r = elim (cases_Bool (is_set r.item)) [
  | inl set ↦ omega (arith, own_left-set plan past r set, set_left-most (length (stages_of plan r)) (facts_of plan past r))
  | inr set ↦ omega (arith, own_left-program plan past r set, left-most r (facts_of plan past r) set)
]

-- ---- sets

-- what an open set has left
open_left : (plan : Plan) (past : List Event) (r : Req) → Has plan.requests r → is_lawful_so_far plan past ≡ true → is_open past r ≡ true
    → own_left plan past r ≡ 1 + (1 + length (stages_of plan r) - unwrap_or (facts_of plan past r).stage 0)
open_left plan past r hr lawful h =
    own_left-set plan past r (open_set past r h)
    ∙ set_left-open (length (stages_of plan r)) (facts_of plan past r) (facts-completed plan past r ∙ open_not_completed plan past r hr lawful h) (facts-opened plan past r ∙ h)

-- what it has at most, where the set may be completed
open_left-le : (plan : Plan) (past : List Event) (r : Req) → is_open past r ≡ true
    → own_left plan past r ≤ 1 + (1 + length (stages_of plan r) - unwrap_or (facts_of plan past r).stage 0)
open_left-le plan past r h =
    omega (
      arith,
      own_left-set plan past r (open_set past r h),
      set_left-open-le (length (stages_of plan r)) (facts_of plan past r) (facts-opened plan past r ∙ h),
    )

-- an opening leaves a set open
open-open : (past : List Event) (r : Req) → is_set r.item ≡ true → is_open (event.OpenSet r.number ∷ past) r ≡ true
unfolding is_open
open-open past r set = and_from _ _ set (or_left _ _ (eqb-refl r.number.number))

-- an opening lowers what is left of its set
open_less : (plan : Plan) (readings : Option (List Reading)) (past : List Event) (r : Req) → Has plan.requests r → is_lawful_so_far plan past ≡ true
    → may_follow plan readings past (event.OpenSet r.number) ≡ true → own_left plan (event.OpenSet r.number ∷ past) r < own_left plan past r
open_less plan readings past r hr lawful m =
    let could : (may_let plan (state plan past) r ≡ true) × (is_set r.item ≡ true) = open_could plan readings past r hr m in
    let dead : (is_let plan past r ≡ false) × (is_open past r ≡ false) = could_not_live plan past r hr could.0 in
    omega (
      arith,
      own_left-set plan past r could.1,
      set_left-unopened (length (stages_of plan r)) (facts_of plan past r) (facts-completed plan past r ∙ could_not_completed plan past r hr could.0)
          (facts-opened plan past r ∙ dead.1),
      open_left-le plan (event.OpenSet r.number ∷ past) r (open-open past r could.1),
    )

-- a stage leaves a set open
stage-open : (past : List Event) (r : Req) (k : ℕ) → is_open (event.Stage r.number k ∷ past) r ≡ is_open past r
unfolding is_open
stage-open past r k = refl

-- and is its current one
stage-current : (plan : Plan) (past : List Event) (r : Req) (k : ℕ) → (facts_of plan (event.Stage r.number k ∷ past) r).stage ≡ Some k
unfolding facts_of current_stage
stage-current plan past r k = rw (eqb-refl r.number.number) refl

-- a stage lowers what is left of its set
stage_less : (plan : Plan) (readings : Option (List Reading)) (past : List Event) (r : Req) (k : ℕ) → Has plan.requests r → is_lawful_so_far plan past ≡ true
    → may_follow plan readings past (event.Stage r.number k) ≡ true → own_left plan (event.Stage r.number k ∷ past) r < own_left plan past r
stage_less plan readings past r k hr lawful m =
    let s = state plan past in
    let h : is_open past r ≡ true = opened_open plan past r hr (stage_comes plan readings past r.number k m) in
    let p : IsStepped plan s r.number k = stage_stepped plan readings past r.number k m in
    let same : p.req ≡ r = same_request plan p.req r p.element hr p.number in
    let step : set_step plan s r ≡ Some (event.Stage r.number k) = subst (λ z. set_step plan s z ≡ Some (event.Stage r.number k)) same p.step in
    let later : (unwrap_or (facts_at s r).stage 0 < k) × (k ≤ 64) = set_step-later plan s r r.number k step in
    let within : k ≤ 1 + length (stages_of plan r) = set_step-within plan s r r.number k step in
    let current : unwrap_or (facts_at s r).stage 0 ≡ unwrap_or (facts_of plan past r).stage 0 = ap (λ f. unwrap_or f.stage 0) (facts_at-state plan past r hr) in
    let next = event.Stage r.number k ∷ past in
    let now : unwrap_or (facts_of plan next r).stage 0 ≡ k = ap (λ o. unwrap_or o 0) (stage-current plan past r k) in
    omega (arith, later.0, within, current, now, open_left plan past r hr lawful h, open_left-le plan next r (stage-open past r k ∙ h))

-- a close lowers what is left of its set
close_less : (plan : Plan) (readings : Option (List Reading)) (past : List Event) (r : Req) (o : Outcome) → Has plan.requests r → is_lawful_so_far plan past ≡ true
    → may_follow plan readings past (event.CloseSet r.number o) ≡ true → own_left plan (event.CloseSet r.number o ∷ past) r < own_left plan past r
close_less plan readings past r o hr lawful m =
    let h : is_open past r ≡ true = opened_open plan past r hr (close_comes plan readings past r.number o m) in
    let next = event.CloseSet r.number o ∷ past in
    omega (
      arith,
      open_left plan past r hr lawful h,
      own_left-set plan next r (open_set past r h),
      set_left-completed (length (stages_of plan r)) (facts_of plan next r)
          (facts-completed plan next r ∙ closed_set plan past r (event.CloseSet r.number o) (eqb-refl r.number.number)),
    )

-- ---- programs

-- what lowers the law's bound of a program lowers this one
program_less : (plan : Plan) (past next : List Event) (r : Req) → is_set r.item ≡ false → left plan next r < left plan past r → own_left plan next r < own_left plan past r
program_less plan past next r set less = omega (arith, own_left-program plan past r set, own_left-program plan next r set, less)

-- a request that runs is of a program
runs_program : (plan : Plan) (past : List Event) (r : Req) → Has plan.requests r → is_lawful_so_far plan past ≡ true → runs past r.number ≡ true → is_set r.item ≡ false
runs_program plan past r hr lawful h = let_no_set plan past r hr lawful (runs_let plan past r hr lawful h)

-- ---- the request that an event is about

-- it has fewer events left
pub about_less : (plan : Plan) (readings : Option (List Reading)) (past : List Event) (r : Req) (e : Event) → Has plan.requests r → is_lawful_so_far plan past ≡ true
    → may_follow plan readings past e ≡ true → is_about r.number e ≡ true → own_left plan (e ∷ past) r < own_left plan past r
about_less plan readings past r (event.OpenSet s) hr lawful m h =
    subst (λ z. may_follow plan readings past (event.OpenSet z) ≡ true → own_left plan (event.OpenSet z ∷ past) r < own_left plan past r) (sym (id_same s r.number h)) (open_less plan readings past r hr lawful) m
about_less plan readings past r (event.Stage s k) hr lawful m h =
    subst (λ z. may_follow plan readings past (event.Stage z k) ≡ true → own_left plan (event.Stage z k ∷ past) r < own_left plan past r) (sym (id_same s r.number h)) (stage_less plan readings past r k hr lawful) m
about_less plan readings past r (event.CloseSet s o) hr lawful m h =
    subst (λ z. may_follow plan readings past (event.CloseSet z o) ≡ true → own_left plan (event.CloseSet z o ∷ past) r < own_left plan past r) (sym (id_same s r.number h)) (close_less plan readings past r o hr lawful) m
about_less plan readings past r (event.LetOut q) hr lawful m h =
    subst (λ z. may_follow plan readings past (event.LetOut z) ≡ true → own_left plan (event.LetOut z ∷ past) r < own_left plan past r) (sym (id_same q r.number h))
    (λ n. program_less plan past (event.LetOut r.number ∷ past) r (let_could plan readings past r hr n).1 (let_less plan readings past r hr lawful n)) m
about_less plan readings past r (event.Started q p) hr lawful m h =
    subst (λ z. may_follow plan readings past (event.Started z p) ≡ true → own_left plan (event.Started z p ∷ past) r < own_left plan past r) (sym (id_same q r.number h))
    (λ n. program_less plan past (event.Started r.number p ∷ past) r (let_no_set plan past r hr lawful (start_let plan readings past r p hr n)) (start_less plan readings past r p hr lawful n)) m
about_less plan readings past r (event.Ended q o x) hr lawful m h =
    subst (λ z. may_follow plan readings past (event.Ended z o x) ≡ true → own_left plan (event.Ended z o x ∷ past) r < own_left plan past r) (sym (id_same q r.number h))
    (λ n. program_less plan past (event.Ended r.number o x ∷ past) r (runs_program plan past r hr lawful (end_runs plan readings past r o x hr n)) (end_less plan readings past r o x hr lawful n)) m
about_less plan readings past r (event.Interrupt q) hr lawful m h =
    subst (λ z. may_follow plan readings past (event.Interrupt z) ≡ true → own_left plan (event.Interrupt z ∷ past) r < own_left plan past r) (sym (id_same q r.number h))
    (λ n. program_less plan past (event.Interrupt r.number ∷ past) r (runs_program plan past r hr lawful (interrupt_runs plan readings past r hr n)) (interrupt_less plan readings past r hr lawful n)) m
about_less plan readings past r (event.Tick t) hr lawful m h = cc
about_less plan readings past r (event.Command n) hr lawful m h = cc
about_less plan readings past r event.Resume hr lawful m h = cc
