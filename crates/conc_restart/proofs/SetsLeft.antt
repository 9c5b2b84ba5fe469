-- How many events of its own a set still has, by what is known of it.
use Rattle.std.proofs.Common.{◌≡◌, ℕ, ◌+◌, ◌-◌, ◌≤◌, Bool, true, false, if◌then◌else◌, refl, ◌∙◌, ap, arith}
use Rattle.std.specs.Prelude.{unwrap_or}
use Rattle.std.proofs.lemmas.Bool.{both_ways}
use Rattle.conc_types.specs.declared.facts.Facts.{Facts}
use Rattle.conc_base_law.specs.State.{is_completed}
use Rattle.conc_base_law.proofs.Weights.{IsKept}

-- its opening, its close, and the stages after the current one. Where it has none, it has its first stage all the same
abbrev left_by : Bool → Bool → ℕ → ℕ → ℕ
left_by completed opened stages stage = if completed then 0 else (if opened then 1 + (1 + stages - stage) else 3 + stages)

unfoldable pub set_left : ℕ → Facts → ℕ
set_left stages f = left_by (is_completed f) f.opened stages (unwrap_or f.stage 0)

-- ---- the cases

-- a completed set has none
pub set_left-completed : (n : ℕ) (f : Facts) → is_completed f ≡ true → set_left n f ≡ 0
unfolding set_left
set_left-completed n f c = ap (λ b. left_by b f.opened n (unwrap_or f.stage 0)) c

-- an open set has its close, and the stages after the current one
pub set_left-open : (n : ℕ) (f : Facts) → is_completed f ≡ false → f.opened ≡ true → set_left n f ≡ 1 + (1 + n - unwrap_or f.stage 0)
unfolding set_left
set_left-open n f todo o = ap (λ b. left_by b f.opened n (unwrap_or f.stage 0)) todo ∙ ap (λ b. left_by false b n (unwrap_or f.stage 0)) o

-- the same, whether it is completed or not
pub set_left-open-le : (n : ℕ) (f : Facts) → f.opened ≡ true → set_left n f ≤ 1 + (1 + n - unwrap_or f.stage 0)
unfolding set_left
set_left-open-le n f o = rw o (by (is_completed f)) where
  by : (b : Bool) → (if b then 0 else (1 + (1 + n - unwrap_or f.stage 0))) ≤ 1 + (1 + n - unwrap_or f.stage 0)
  by true = omega arith
  by false = omega arith

-- a set that is not open has its opening too
pub set_left-unopened : (n : ℕ) (f : Facts) → is_completed f ≡ false → f.opened ≡ false → set_left n f ≡ 3 + n
unfolding set_left
set_left-unopened n f todo o = ap (λ b. left_by b f.opened n (unwrap_or f.stage 0)) todo ∙ ap (λ b. left_by false b n (unwrap_or f.stage 0)) o

-- no set has more
pub set_left-most : (n : ℕ) (f : Facts) → set_left n f ≤ 3 + n
unfolding set_left
set_left-most n f = by (is_completed f) f.opened where
  by : (b c : Bool) → left_by b c n (unwrap_or f.stage 0) ≤ 3 + n
  by true c = omega arith
  by false true = omega arith
  by false false = omega arith

-- ---- two times

-- a set of which all is kept, or which is completed, has no more
pub set_left-kept : (n : ℕ) (f g : Facts) → IsKept f g → set_left n g ≤ set_left n f
unfolding set_left
set_left-kept n f g h =
    let after : set_left n g ≡ left_by (is_completed g) f.opened n (unwrap_or f.stage 0) =
    ap (λ b. left_by (is_completed g) b n (unwrap_or g.stage 0)) h.opened
    ∙ ap (λ o. left_by (is_completed g) f.opened n (unwrap_or o 0)) h.stage in
    rw after (by (is_completed f) (is_completed g) h.completed) where
      by : (b c : Bool) → (b ≡ true → c ≡ true) → left_by c f.opened n (unwrap_or f.stage 0) ≤ left_by b f.opened n (unwrap_or f.stage 0)
      by b true k = omega arith
      by false false k = omega arith
      by true false k = absurd (both_ways _ refl (k refl))
