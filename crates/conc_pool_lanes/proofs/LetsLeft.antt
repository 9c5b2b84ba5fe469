-- How many lets of a request may still come in a run, unless a hold takes one from it.
use Rattle.std.proofs.Common.{◌≡◌, ℕ, ◌<◌, ◌≤◌, Bool, true, false, ◌||◌, List, ◌∷◌, Option, None, Some, if◌then◌else◌, nat_le, leb-true, le-leb, is_some, refl, sym, ◌∙◌, ap, subst, inl, inr, arith}
use Rattle.std.specs.Bool.{then_some}
use Rattle.std.proofs.lemmas.Bool.{and_from, and_parts, both_ways, cases_Bool, eqb-true, not_from_false, or_cases, or_left}
use Rattle.conc_types.specs.declared.event.Event.{Event}
use Rattle.conc_types.specs.declared.event.Event.TheVariants as event
use Rattle.conc_types.specs.declared.event.Outcome.TheVariants as outcome
use Rattle.conc_types.specs.declared.plan.Plan.{Plan}
use Rattle.conc_types.specs.declared.plan.Req.{Req}
use Rattle.conc_types.specs.declared.script.Act.{Act}
use Rattle.conc_types.specs.declared.script.Act.TheVariants as act
use Rattle.conc_types.specs.Words.{some_and}
use Rattle.conc_base_law.specs.Facts.{cancels, completes, completion, facts_of, holds, is_let, running_place, unlets}
use Rattle.conc_base_law.specs.Kinds.{act_of, is_hold, is_resume}
use Rattle.conc_base_law.specs.Law.{is_lawful_so_far, may_follow}
use Rattle.conc_base_law.specs.Next.{may_let}
use Rattle.conc_base_law.specs.State.{is_running, state}
use Rattle.conc_base_law.specs.Words.{Has, is_set}
use Rattle.conc_base_law.proofs.Completed.{was_completed-by}
use Rattle.conc_base_law.proofs.EqualEvents.{eqb-refl, id_same}
use Rattle.conc_base_law.proofs.LiveApart.{let_could}
use Rattle.conc_base_law.proofs.Others.{command_lets_not, does, is_about, others_kept, others_let}
use Rattle.conc_base_law.proofs.SetsUseUp.{close_less, open_less, stage_less}
use Rattle.conc_base_law.proofs.UsesUp.{could_not_completed, could_not_live, end_less, facts-completed, facts-let, facts-runs, interrupt_less, left, let_less, let_not_runs_not, start_less}
use Rattle.conc_base_law.proofs.Weights.{left-completed, left-kept, left-let-le, left-waiting}

-- ---- the number

-- one where a request that is no set has three events of its own left or more: before its end and its start comes a let
abbrev pub lets_at : Bool → ℕ → ℕ
lets_at set n = if set then 0 else (if nat_le 3 n then 1 else 0)

-- how many lets of the request may still come
abbrev pub lets_left : Plan → List Event → Req → ℕ
lets_left plan past r = lets_at (is_set r.item) (left plan past r)

-- one at most
lets_at-most : (set : Bool) (n : ℕ) → lets_at set n ≤ 1
lets_at-most set n = by set (nat_le 3 n) where
  by : (s b : Bool) → (if s then 0 else (if b then 1 else 0)) ≤ 1
  by true b = omega arith
  by false true = omega arith
  by false false = omega arith

-- none where two events are left
lets_at-few : (set : Bool) (n : ℕ) → n ≤ 2 → lets_at set n ≡ 0
lets_at-few true n few = refl
lets_at-few false n few = elim (cases_Bool (nat_le 3 n)) [
  | inl t ↦ absurd (omega (arith, leb-true 3 n t))
  | inr f ↦ rw f refl
]

-- no more where no more events are left
lets_at-fewer : (set : Bool) (m n : ℕ) → m ≤ n → lets_at set m ≤ lets_at set n
lets_at-fewer true m n fewer = omega arith
lets_at-fewer false m n fewer = elim (cases_Bool (nat_le 3 m)) [
  | inl t ↦ let u : nat_le 3 n ≡ true = le-leb 3 n (omega (arith, leb-true 3 m t)) in rw (t, u) (omega arith)
  | inr f ↦ rw f (omega arith)
]

-- none of a request that waits to start
pub lets_left-waiting : (plan : Plan) (past : List Event) (r : Req) → (facts_of plan past r).let_out ≡ true → is_running (facts_of plan past r) ≡ false
    → lets_left plan past r ≡ 0
lets_left-waiting plan past r l n = lets_at-few (is_set r.item) (left plan past r) (left-let-le r (facts_of plan past r) n l)

-- one at most
pub lets_left-most : (plan : Plan) (past : List Event) (r : Req) → lets_left plan past r ≤ 1
lets_left-most plan past r = lets_at-most (is_set r.item) (left plan past r)

-- ---- an event that does no command

-- the request that an event is about has fewer events left
about_less : (plan : Plan) (past : List Event) (r : Req) (e : Event) → Has plan.requests r → is_lawful_so_far plan past ≡ true
    → may_follow plan None past e ≡ true → is_about r.number e ≡ true → left plan (e ∷ past) r < left plan past r
about_less plan past r (event.OpenSet s) hr lawful m h =
    subst (λ z. may_follow plan None past (event.OpenSet z) ≡ true → left plan (event.OpenSet z ∷ past) r < left plan past r) (sym (id_same s r.number h)) (open_less plan None past r hr lawful) m
about_less plan past r (event.Stage s k) hr lawful m h =
    subst (λ z. may_follow plan None past (event.Stage z k) ≡ true → left plan (event.Stage z k ∷ past) r < left plan past r) (sym (id_same s r.number h)) (stage_less plan None past r k hr lawful) m
about_less plan past r (event.CloseSet s o) hr lawful m h =
    subst (λ z. may_follow plan None past (event.CloseSet z o) ≡ true → left plan (event.CloseSet z o ∷ past) r < left plan past r) (sym (id_same s r.number h)) (close_less plan None past r o hr lawful) m
about_less plan past r (event.LetOut q) hr lawful m h =
    subst (λ z. may_follow plan None past (event.LetOut z) ≡ true → left plan (event.LetOut z ∷ past) r < left plan past r) (sym (id_same q r.number h)) (let_less plan None past r hr lawful) m
about_less plan past r (event.Started q p) hr lawful m h =
    subst (λ z. may_follow plan None past (event.Started z p) ≡ true → left plan (event.Started z p ∷ past) r < left plan past r) (sym (id_same q r.number h)) (start_less plan None past r p hr lawful) m
about_less plan past r (event.Ended q o x) hr lawful m h =
    subst (λ z. may_follow plan None past (event.Ended z o x) ≡ true → left plan (event.Ended z o x ∷ past) r < left plan past r) (sym (id_same q r.number h)) (end_less plan None past r o x hr lawful) m
about_less plan past r (event.Interrupt q) hr lawful m h =
    subst (λ z. may_follow plan None past (event.Interrupt z) ≡ true → left plan (event.Interrupt z ∷ past) r < left plan past r) (sym (id_same q r.number h)) (interrupt_less plan None past r hr lawful) m
about_less plan past r (event.Tick t) hr lawful m h = cc
about_less plan past r (event.Command n) hr lawful m h = cc
about_less plan past r event.Resume hr lawful m h = cc

-- no request has more events left
each_fewer : (plan : Plan) (past : List Event) (r : Req) (e : Event) → Has plan.requests r → is_lawful_so_far plan past ≡ true
    → may_follow plan None past e ≡ true → is_resume e ≡ false → does e ≡ false → left plan (e ∷ past) r ≤ left plan past r
each_fewer plan past r e hr lawful m n d = elim (cases_Bool (is_about r.number e)) [
  | inl h ↦ omega (arith, about_less plan past r e hr lawful m h)
  | inr h ↦
      left-kept r (facts_of plan past r) (facts_of plan (e ∷ past) r) (others_kept plan past r e n h)
      (facts-let plan (e ∷ past) r ∙ (others_let plan past r e d h ∙ sym (facts-let plan past r)))
]

-- so of no request more lets may come
pub lets_left-fewer : (plan : Plan) (past : List Event) (r : Req) (e : Event) → Has plan.requests r → is_lawful_so_far plan past ≡ true
    → may_follow plan None past e ≡ true → is_resume e ≡ false → does e ≡ false → lets_left plan (e ∷ past) r ≤ lets_left plan past r
lets_left-fewer plan past r e hr lawful m n d =
    lets_at-fewer (is_set r.item) (left plan (e ∷ past) r) (left plan past r) (each_fewer plan past r e hr lawful m n d)

-- ---- a let

-- it leaves its request as it ran
let-runs : (plan : Plan) (past : List Event) (r : Req) → is_running (facts_of plan (event.LetOut r.number ∷ past) r) ≡ is_running (facts_of plan past r)
unfolding facts_of running_place
let-runs plan past r = refl

-- and makes it let
let-let : (plan : Plan) (past : List Event) (r : Req) → (facts_of plan (event.LetOut r.number ∷ past) r).let_out ≡ true
unfolding facts_of is_let
let-let plan past r = or_left _ _ (eqb-refl r.number.number)

-- of the request that it lets out one let fewer may come
pub lets_left-let : (plan : Plan) (past : List Event) (r : Req) → Has plan.requests r → is_lawful_so_far plan past ≡ true
    → may_follow plan None past (event.LetOut r.number) ≡ true → lets_left plan (event.LetOut r.number ∷ past) r < lets_left plan past r
lets_left-let plan past r hr lawful m =
    let could : (may_let plan (state plan past) r ≡ true) × (is_set r.item ≡ false) = let_could plan None past r hr m in
    let dead = could_not_live plan past r hr could.0 in
    let still : is_running (facts_of plan past r) ≡ false = facts-runs plan past r ∙ let_not_runs_not plan past r hr lawful dead.0 in
    let three : left plan past r ≡ 3 =
    left-waiting r (facts_of plan past r) (facts-completed plan past r ∙ could_not_completed plan past r hr could.0) still (facts-let plan past r ∙ dead.0) could.1 in
    let before : lets_left plan past r ≡ 1 = ap (λ s. lets_at s (left plan past r)) could.1 ∙ ap (lets_at false) three in
    let after : lets_left plan (event.LetOut r.number ∷ past) r ≡ 0 =
    lets_left-waiting plan (event.LetOut r.number ∷ past) r (let-let plan past r) (let-runs plan past r ∙ still) in
    omega arith

-- ---- a command

-- the number of the request that the command holds, or 0
abbrev pub hold_number : Option Act → ℕ
hold_number (Some (act.Hold q)) = q.number
hold_number _ = 0

-- a command that holds a request has its number
holds-number : (r : Req) (a : Option Act) → some_and (is_hold r.number) a ≡ true → r.number.number ≡ hold_number a
holds-number r (Some (act.Hold q)) h = sym (eqb-true q.number r.number.number h)
holds-number r None h = cc
holds-number r (Some _) h = cc

-- a command that takes its let from a request holds it, or cancels it
unlets-command : (plan : Plan) (past : List Event) (r : Req) (n : ℕ) → is_let plan past r ≡ true → is_let plan (event.Command n ∷ past) r ≡ false
    → (holds plan r past (event.Command n) || cancels plan past (completion plan past) r (event.Command n)) ≡ true
unfolding is_let unlets
unlets-command plan past r n l u = elim (cases_Bool (holds plan r past (event.Command n) || cancels plan past (completion plan past) r (event.Command n))) [
  | inl t ↦ t
  | inr f ↦ absurd (both_ways _ u (and_from _ _ (not_from_false _ f) l))
]

-- a request that a command cancels has no events left
cancels-none : (plan : Plan) (past : List Event) (r : Req) (n : ℕ) → cancels plan past (completion plan past) r (event.Command n) ≡ true
    → left plan (event.Command n ∷ past) r ≡ 0
unfolding completes
cancels-none plan past r n h =
    let given : is_some (completes plan past (completion plan past) r (event.Command n)) ≡ true = ap (λ b. is_some (then_some b outcome.Cancelled)) (or_left _ _ h) in
    left-completed r (facts_of plan (event.Command n ∷ past) r)
    (facts-completed plan (event.Command n ∷ past) r ∙ was_completed-by plan past r (event.Command n) given)

-- a hold is of the request with its number
holds-one : (plan : Plan) (past : List Event) (r : Req) (e : Event) → holds plan r past e ≡ true → r.number.number ≡ hold_number (act_of plan e)
unfolding holds
holds-one plan past r e h = holds-number r (act_of plan e) (and_parts (some_and (is_hold r.number) (act_of plan e)) _ h).0

-- a command leaves a request that it does not hold no more events
command_fewer : (plan : Plan) (past : List Event) (r : Req) (n : ℕ) → (r.number.number ≡ hold_number (act_of plan (event.Command n)) → ⊥)
    → left plan (event.Command n ∷ past) r ≤ left plan past r
command_fewer plan past r n other =
    let next = event.Command n ∷ past in
    let same : is_let plan next r ≡ is_let plan past r → left plan next r ≤ left plan past r =
    λ e. left-kept r (facts_of plan past r) (facts_of plan next r) (others_kept plan past r (event.Command n) refl refl)
    (facts-let plan next r ∙ (e ∙ sym (facts-let plan past r))) in
    elim (cases_Bool (is_let plan next r)) [
      | inl t ↦ same (t ∙ sym (command_lets_not plan past r n t))
      | inr f ↦ elim (cases_Bool (is_let plan past r)) [
        | inr g ↦ same (f ∙ sym g)
        | inl g ↦ elim (or_cases _ _ (unlets-command plan past r n g f)) [
          | inl h ↦ absurd (other (holds-one plan past r (event.Command n) h))
          | inr c ↦ omega (arith, cancels-none plan past r n c)
        ]
      ]
    ]

-- so of a request that it does not hold no more lets may come
pub lets_left-command : (plan : Plan) (past : List Event) (r : Req) (n : ℕ) → (r.number.number ≡ hold_number (act_of plan (event.Command n)) → ⊥)
    → lets_left plan (event.Command n ∷ past) r ≤ lets_left plan past r
lets_left-command plan past r n other =
    lets_at-fewer (is_set r.item) (left plan (event.Command n ∷ past) r) (left plan past r) (command_fewer plan past r n other)
