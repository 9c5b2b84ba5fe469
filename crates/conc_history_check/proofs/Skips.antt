-- What holds at an index, step by step up to another one.
use Rattle.std.proofs.Common.{ℕ, zero, suc, ◌+◌, ◌-◌, ◌<◌, ◌≤◌, inl, inr, subst, arith}
use Rattle.std.specs.Prelude.{◌≡◌}
use Rattle.std.proofs.lemmas.Bool.{cases_lt}

skips-by : (P : ℕ → Type 0) (n from : ℕ) → ((i : ℕ) → from ≤ i → i < from + n → P i → P (i + 1)) → P from → P (from + n)
skips-by P zero from step here = subst P (omega arith) here
skips-by P (suc n) from step here =
    subst P (omega arith) (skips-by P n (from + 1) (λ i least most. step i (omega (arith, least)) (omega (arith, most))) (step from (omega arith) (omega arith) here))

-- from one index to a greater one
pub skips : (P : ℕ → Type 0) (from to : ℕ) → from ≤ to → ((i : ℕ) → from ≤ i → i < to → P i → P (i + 1)) → P from → P to
skips P from to le step here =
    let n = to - from in let sum : from + n ≡ to = omega (arith, le) in
    subst P sum (skips-by P n from (λ i least most. step i least (omega (arith, most, sum))) here)

-- to this one, or a greater one
pub skips-past : (P : ℕ → Type 0) (from to : ℕ) → ((i : ℕ) → from ≤ i → i < to → P i → P (i + 1)) → P from → (last : ℕ) × (to ≤ last) × P last
skips-past P from to step here = elim (cases_lt from to) [
  | inl less ↦ (to, omega arith, skips P from to (omega (arith, less)) step here)
  | inr past ↦ (from, past, here)
]
