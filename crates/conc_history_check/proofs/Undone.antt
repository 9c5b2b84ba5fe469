-- Commands that are done stay done.
use Rattle.std.proofs.Common.{◌≡◌, inl, inr, ℕ, zero, suc, ◌+◌, ◌-◌, ◌≤◌, Bool, true, false, ◌&&◌, nat_lt, nat_le, List, [], ◌∷◌, length, Option, None, Some, refl, sym, ◌∙◌, ap, arith}
use Rattle.std.specs.Prelude.{if◌then◌else◌, slice_get, slice_set, unwrap_or}
use Rattle.std.proofs.lemmas.Bool.{cases_eq}
use Rattle.conc_types.specs.declared.event.Event.{Event}
use Rattle.conc_types.specs.declared.event.Event.TheVariants as event
use Rattle.conc_types.specs.declared.facts.State.{State}
use Rattle.conc_types.specs.declared.plan.Plan.{Plan}
use Rattle.conc_event_effects.specs.Advance.{IsAfter, done_after}
use Rattle.conc_event_queue.proofs.Maps.{slice_get-set_other, slice_get-set_same}
use Rattle.conc_history_check.specs.Active.{AreDoneBefore, done_at}

flag-some : (o : Option Bool) → unwrap_or o false ≡ true → o ≡ Some true
flag-some None is = cc
flag-some (Some b) is = ap (λ (f : Bool). Some f) is

-- a flag that is set stays so where one is set
set-kept : (flags : List Bool) (j k : ℕ) → unwrap_or (slice_get flags k) false ≡ true → unwrap_or (slice_get (slice_set flags j true) k) false ≡ true
set-kept flags j k is = elim (cases_eq k j) [
  | inl same ↦
      ap (λ o. unwrap_or o false)
      (ap (slice_get (slice_set flags j true)) same ∙ slice_get-set_same flags j true true (ap (slice_get flags) (sym same) ∙ flag-some (slice_get flags k) is))
  | inr other ↦ ap (λ o. unwrap_or o false) (slice_get-set_other flags j k true other) ∙ is
]

marked-kept : (flags : List Bool) (b : Bool) (j k : ℕ) → unwrap_or (slice_get flags k) false ≡ true → unwrap_or (slice_get (if b then slice_set flags j true else flags) k) false ≡ true
marked-kept flags true j k is = set-kept flags j k is
marked-kept flags false j k is = is

done-kept : (flags : List Bool) (e : Event) (k : ℕ) → unwrap_or (slice_get flags k) false ≡ true → unwrap_or (slice_get (done_after flags e) k) false ≡ true
done-kept flags (event.Command n) k is = marked-kept flags (nat_lt 0 n && nat_le n (length flags)) (n - 1) k is
done-kept flags _ k is = is

pub done-after : (plan : Plan) (e : Event) (old new : State) (place : ℕ) → AreDoneBefore old place → IsAfter plan old new e → AreDoneBefore new place
done-after plan e old new place before after = λ k less.
    ap (λ (l : List Bool). unwrap_or (slice_get l k) false) after.done ∙ done-kept old.done e k (before k less)

-- behind the last command none is done
pub done-beyond : (flags : List Bool) (k : ℕ) → length flags ≤ k → unwrap_or (slice_get flags k) false ≡ false
done-beyond [] k past = refl
done-beyond (b ∷ flags) zero past = absurd (omega (arith, past))
done-beyond (b ∷ flags) (suc k) past = done-beyond flags k (omega (arith, past))

-- one more is done
pub done-more : (s : State) (place : ℕ) → AreDoneBefore s place → done_at s place ≡ true → AreDoneBefore s (place + 1)
done-more s place before here = λ k less. elim (cases_eq k place) [
  | inl same ↦ ap (done_at s) same ∙ here
  | inr other ↦ before k (omega (arith, less, other))
]
