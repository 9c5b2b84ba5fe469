-- The lead of a new board.
use Rattle.std.proofs.Common.{◌≡◌, ℕ, zero, suc, ◌<◌, ◌||◌, true, ap, ◌∙◌, arith, eq-eqb, ne_eqb}
use mathlib.Core.Logic.{dite}
use native.Mathlib.Decide.{ℕ_discrete}
use Rattle.conc_types.specs.declared.event.PlaceId.{PlaceId}
use Rattle.conc_pool_seats.specs.Places.{below, has}

pub has-below : (n : ℕ) (p : PlaceId) → p.index < n → has (below n) p ≡ true
has-below zero p near = absurd (omega arith)
has-below (suc n) p near = dite (ℕ_discrete n p.index)
    (λ e. ap (λ b. b || has (below n) p) (eq-eqb n p.index e))
    (λ other. ap (λ b. b || has (below n) p) (ne_eqb n p.index other) ∙ has-below n p (omega arith))
