-- The changes that a crash in a call has begun are the first of a trace, and what they may leave was left since its start.
use Rattle.std.proofs.Common.{◌≡◌, ℕ, suc, ◌≤◌, List, [], ◌∷◌, length, take, true, false, IsTrue, if◌then◌else◌, refl, ap, subst, arith}
use Rattle.conc_edge_devices.specs.Laws.{both, both-first, both-second}
use Rattle.conc_edge_devices.specs.Trace.{act_fits, after_act, all_fit, begun_in, is_begun, Leaves, LeavesSince}
use Rattle.conc_edge_devices.specs.declared.trace.Change.{Change}

pub fit-begun : (call : ℕ) (xs : List Change) (s : List ℕ) → IsTrue (all_fit xs s) → IsTrue (all_fit (begun_in call xs) s)
fit-begun call [] s fit = refl
fit-begun call (x ∷ xs) s fit =
    elim (is_begun call x) as (λ b. IsTrue (all_fit (if b then x ∷ begun_in call xs else []) s)) [
      | true ↦ both (act_fits x.act s) (all_fit (begun_in call xs) (after_act x.act s))
          (both-first (act_fits x.act s) (all_fit xs (after_act x.act s)) fit)
          (fit-begun call xs (after_act x.act s) (both-second (act_fits x.act s) (all_fit xs (after_act x.act s)) fit))
      | false ↦ refl
    ]

first-ones : (call : ℕ) (xs : List Change) → (k : ℕ) × (k ≤ length xs) × (begun_in call xs ≡ take k xs)
first-ones call [] = (0, omega arith, refl)
first-ones call (x ∷ xs) =
    let rest = first-ones call xs in
    elim (is_begun call x) as (λ b. (k : ℕ) × (k ≤ length (x ∷ xs)) × ((if b then x ∷ begun_in call xs else []) ≡ take k (x ∷ xs))) [
      | true ↦ (suc rest.0, omega (arith, rest.1), ap (λ (l : List Change). x ∷ l) rest.2)
      | false ↦ (0, omega arith, refl)
    ]

pub begun-since : (call : ℕ) (xs : List Change) (start c : List ℕ) → Leaves (begun_in call xs) start start c → LeavesSince xs start 0 c
begun-since call xs start c left =
    let first = first-ones call xs in
    (first.0, omega arith, first.1, subst (λ (l : List Change). Leaves l start start c) first.2 left)
