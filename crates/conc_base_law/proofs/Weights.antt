-- How many events a request still has, by what is known of it.
use Rattle.std.proofs.Common.{◌≡◌, ℕ, ◌+◌, ◌-◌, ◌≤◌, Bool, true, false, not, if◌then◌else◌, refl, ◌∙◌, ap, arith}
use Rattle.std.specs.Prelude.{is_some, unwrap_or}
use Rattle.std.proofs.lemmas.Bool.{both_ways}
use Rattle.conc_types.specs.declared.facts.Facts.{Facts}
use Rattle.conc_types.specs.declared.plan.Req.{Req}
use Rattle.conc_base_law.specs.Remaining.{events_left}
use Rattle.conc_base_law.specs.State.{is_completed, is_running}
use Rattle.conc_base_law.specs.Words.{is_set}

-- ---- the cases of the bound

-- of a request that is not completed and does not run
abbrev waiting_left : Bool → Bool → Bool → ℕ → ℕ
waiting_left let_out set opened stage =
    if let_out then 2 else (if not set then 3 else (if opened then 1 + (65 - stage) else 67))

-- the bound, by the answers to its tests
abbrev left_by : Bool → Bool → Bool → Bool → Bool → Bool → ℕ → ℕ
left_by completed running started let_out set opened stage =
    if completed then 0 else (if running then (if started then 1 else 4) else waiting_left let_out set opened stage)

-- the bound is that
events_left-by : (r : Req) (f : Facts)
    → events_left r f ≡ left_by (is_completed f) (is_running f) f.started f.let_out (is_set r.item) f.opened (unwrap_or f.stage 0)
unfolding events_left
events_left-by r f = refl

-- a completed request has none
pub left-completed : (r : Req) (f : Facts) → is_completed f ≡ true → events_left r f ≡ 0
left-completed r f c =
    events_left-by r f ∙ ap (λ b. left_by b (is_running f) f.started f.let_out (is_set r.item) f.opened (unwrap_or f.stage 0)) c

-- one that was started in this life has at most its end
pub left-started : (r : Req) (f : Facts) → is_running f ≡ true → f.started ≡ true → events_left r f ≤ 1
left-started r f run start = rw (events_left-by r f) (rw (run, start) (by (is_completed f))) where
  by : (b : Bool) → (if b then 0 else 1) ≤ 1
  by true = omega arith
  by false = omega arith

-- one that runs has its end
pub left-running : (r : Req) (f : Facts) → is_completed f ≡ false → is_running f ≡ true → 1 ≤ events_left r f
left-running r f todo run = rw (events_left-by r f) (rw (todo, run) (by f.started)) where
  by : (b : Bool) → 1 ≤ (if b then 1 else 4)
  by true = omega arith
  by false = omega arith

-- one that an earlier life left running has four
pub left-left_running : (r : Req) (f : Facts) → is_completed f ≡ false → is_running f ≡ true → f.started ≡ false → events_left r f ≡ 4
left-left_running r f todo run start = rw (events_left-by r f) (rw (todo, run, start) refl)

-- a let one that does not run has two
pub left-let : (r : Req) (f : Facts) → is_completed f ≡ false → is_running f ≡ false → f.let_out ≡ true → events_left r f ≡ 2
left-let r f todo run l = rw (events_left-by r f) (rw (todo, run, l) refl)

-- the same, whether it is completed or not
pub left-let-le : (r : Req) (f : Facts) → is_running f ≡ false → f.let_out ≡ true → events_left r f ≤ 2
left-let-le r f run l = rw (events_left-by r f) (rw (run, l) (by (is_completed f))) where
  by : (b : Bool) → (if b then 0 else 2) ≤ 2
  by true = omega arith
  by false = omega arith

-- one that is no set, and is neither let nor runs, has three
pub left-waiting : (r : Req) (f : Facts) → is_completed f ≡ false → is_running f ≡ false → f.let_out ≡ false → is_set r.item ≡ false → events_left r f ≡ 3
left-waiting r f todo run l s = rw (events_left-by r f) (rw (todo, run, l, s) refl)

-- the same, whether it is completed or not
pub left-waiting-le : (r : Req) (f : Facts) → is_running f ≡ false → f.let_out ≡ false → is_set r.item ≡ false → events_left r f ≤ 3
left-waiting-le r f run l s = rw (events_left-by r f) (rw (run, l, s) (by (is_completed f))) where
  by : (b : Bool) → (if b then 0 else 3) ≤ 3
  by true = omega arith
  by false = omega arith

-- an open set has its close, and the stages after the current one
pub left-open : (r : Req) (f : Facts) → is_completed f ≡ false → is_running f ≡ false → f.let_out ≡ false → is_set r.item ≡ true → f.opened ≡ true
    → events_left r f ≡ 1 + (65 - unwrap_or f.stage 0)
left-open r f todo run l s o = rw (events_left-by r f) (rw (todo, run, l, s, o) refl)

-- the same, whether it is completed or not
pub left-open-le : (r : Req) (f : Facts) → is_running f ≡ false → f.let_out ≡ false → is_set r.item ≡ true → f.opened ≡ true
    → events_left r f ≤ 1 + (65 - unwrap_or f.stage 0)
left-open-le r f run l s o = rw (events_left-by r f) (rw (run, l, s, o) (by (is_completed f))) where
  by : (b : Bool) → (if b then 0 else (1 + (65 - unwrap_or f.stage 0))) ≤ 1 + (65 - unwrap_or f.stage 0)
  by true = omega arith
  by false = omega arith

-- a set that is not open has one more than an open one can have
pub left-unopened : (r : Req) (f : Facts) → is_completed f ≡ false → is_running f ≡ false → f.let_out ≡ false → is_set r.item ≡ true → f.opened ≡ false
    → events_left r f ≡ 67
left-unopened r f todo run l s o = rw (events_left-by r f) (rw (todo, run, l, s, o) refl)

-- ---- two times

-- all but the completion and the let is the same, and what was completed is so
pub record IsKept (f g : Facts) : Type 0 where
  pub place : g.place ≡ f.place
  pub started : g.started ≡ f.started
  pub opened : g.opened ≡ f.opened
  pub stage : g.stage ≡ f.stage
  pub completed : is_completed f ≡ true → is_completed g ≡ true

-- the bound, after
kept-by : (r : Req) (f g : Facts) → IsKept f g
    → events_left r g ≡ left_by (is_completed g) (is_running f) f.started g.let_out (is_set r.item) f.opened (unwrap_or f.stage 0)
kept-by r f g h =
    events_left-by r g
    ∙ ap (λ p. left_by (is_completed g) (is_some p) g.started g.let_out (is_set r.item) g.opened (unwrap_or g.stage 0)) h.place
    ∙ ap (λ b. left_by (is_completed g) (is_running f) b g.let_out (is_set r.item) g.opened (unwrap_or g.stage 0)) h.started
    ∙ ap (λ b. left_by (is_completed g) (is_running f) f.started g.let_out (is_set r.item) b (unwrap_or g.stage 0)) h.opened
    ∙ ap (λ o. left_by (is_completed g) (is_running f) f.started g.let_out (is_set r.item) f.opened (unwrap_or o 0)) h.stage

-- a request of which all is kept, or which is completed, has no more events left
pub left-kept : (r : Req) (f g : Facts) → IsKept f g → g.let_out ≡ f.let_out → events_left r g ≤ events_left r f
left-kept r f g h l =
    rw (events_left-by r f) (rw (kept-by r f g h) (rw l (by (is_completed f) (is_completed g) h.completed))) where
      by : (b c : Bool) → (b ≡ true → c ≡ true)
          → left_by c (is_running f) f.started f.let_out (is_set r.item) f.opened (unwrap_or f.stage 0)
          ≤ left_by b (is_running f) f.started f.let_out (is_set r.item) f.opened (unwrap_or f.stage 0)
      by b true k = omega arith
      by false false k = omega arith
      by true false k = absurd (both_ways _ refl (k refl))

-- a request that loses its let has one more at most
pub left-unlet : (r : Req) (f g : Facts) → IsKept f g → (g.let_out ≡ true → f.let_out ≡ true) → (f.let_out ≡ true → is_set r.item ≡ false)
    → events_left r g ≤ events_left r f + 1
left-unlet r f g h l s =
    rw (events_left-by r f) (rw (kept-by r f g h) (by (is_completed f) (is_completed g) (is_running f) f.let_out g.let_out (is_set r.item) h.completed l s)) where
      by : (b c run m n t : Bool) → (b ≡ true → c ≡ true) → (n ≡ true → m ≡ true) → (m ≡ true → t ≡ false)
          → left_by c run f.started n t f.opened (unwrap_or f.stage 0) ≤ left_by b run f.started m t f.opened (unwrap_or f.stage 0) + 1
      by b true run m n t k l s = omega arith
      by true false run m n t k l s = absurd (both_ways _ refl (k refl))
      by false false true m n t k l s = omega arith
      by false false false true true t k l s = omega arith
      by false false false false false t k l s = omega arith
      by false false false false true t k l s = absurd (both_ways _ refl (l refl))
      by false false false true false true k l s = absurd (both_ways _ (s refl) refl)
      by false false false true false false k l s = omega arith
