-- How many events stand before the last life.
use Rattle.std.proofs.Common.{◌≡◌, ℕ, zero, suc, ◌-◌, ◌<◌, ◌≤◌, Bool, true, false, ◌||◌, List, [], ◌∷◌, drop, None, Some, refl, sym, ◌∙◌, ap, inl, inr, arith}
use Rattle.std.specs.Prelude.{nat_lt, slice_get}
use Rattle.std.specs.List.{list_any}
use Rattle.std.proofs.lemmas.Bool.{cases_lt}
use Rattle.std.proofs.lemmas.Bool.Decides.{nat_tests}
use Rattle.conc_types.specs.declared.event.Event.{Event}
use Rattle.conc_types.specs.declared.script.Reading.{Reading}
use Rattle.conc_base_law.specs.Kinds.{is_resume}
use Rattle.conc_history_check.specs.Positions.{AreBeforeLastLife, known_before}

-- one that is not before another index passes
any-from : (events : List Event) (k j : ℕ) (e : Event) → k ≤ j → slice_get events j ≡ Some e → is_resume e ≡ true → list_any is_resume (drop k events) ≡ true
any-from [] k j e le at is = cc
any-from (x ∷ events) zero zero e le at is = let same : x ≡ e = cc in rw (ap is_resume same ∙ is) refl
any-from (x ∷ events) zero (suc j) e le at is = later (is_resume x) (list_any is_resume events) (any-from events zero j e (omega arith) at is) where
  later : (a b : Bool) → b ≡ true → (a || b) ≡ true
  later true b h = refl
  later false b h = h
any-from (x ∷ events) (suc k) zero e le at is = absurd (omega (arith, le))
any-from (x ∷ events) (suc k) (suc j) e le at is = any-from events k j e (omega (arith, le)) at is

below-true : (k n : ℕ) → k < n → nat_lt k n ≡ true
below-true k n less = grind (arith, nat_tests)

below-false : (k n : ℕ) → n ≤ k → nat_lt k n ≡ false
below-false k n past = grind (arith, nat_tests)

pub before-some : (events : List Event) (n : ℕ) (e : Event) → 0 < n → slice_get events (n - 1) ≡ Some e → is_resume e ≡ true → ((k : ℕ) → n ≤ k → list_any is_resume (drop k events) ≡ false) → AreBeforeLastLife events n
before-some events n e some at is none = λ k. elim (cases_lt k n) [
  | inl less ↦ any-from events k (n - 1) e (omega (arith, less)) at is ∙ sym (below-true k n less)
  | inr past ↦ none k past ∙ sym (below-false k n past)
]

pub before-none : (events : List Event) (n : ℕ) → n ≤ 0 → ((k : ℕ) → n ≤ k → list_any is_resume (drop k events) ≡ false) → AreBeforeLastLife events n
before-none events n nil none = λ k. none k (omega (arith, nil)) ∙ sym (below-false k n (omega (arith, nil)))

-- which readings are known at an index
pub known-not : (readings : List Reading) (events : List Event) (n k : ℕ) → AreBeforeLastLife events n → k < n → known_before readings (drop k events) ≡ None
unfolding known_before
known-not readings events n k are less = rw (are k, below-true k n less) refl

pub known-all : (readings : List Reading) (events : List Event) (n k : ℕ) → AreBeforeLastLife events n → n ≤ k → known_before readings (drop k events) ≡ Some readings
unfolding known_before
known-all readings events n k are past = rw (are k, below-false k n past) refl
