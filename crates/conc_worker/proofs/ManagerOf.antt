-- The manager of a place is one of the setup's.
use Rattle.std.proofs.Common.{◌≡◌, ℕ, ◌-◌, ◌<◌, ◌≤◌, Option, None, Some, length, refl, ap, arith}
use Rattle.std.specs.Option.{option_map}
use Rattle.std.proofs.lemmas.Option.{same_Some, slice_get_within}
use Rattle.conc_types.specs.declared.event.PlaceId.{PlaceId}
use Rattle.conc_types.specs.declared.manager.Manager.{Manager}
use Rattle.conc_types.specs.declared.plan.Plan.{Plan}
use Rattle.conc_base_law.specs.Places.{Place, place_of}
use Rattle.conc_board.proofs.PlaceManagers.{owner-has}

-- its number, as the call tells it, is at least 1 and at most the count of the managers
pub owner-within : (plan : Plan) (place : PlaceId) (o : ℕ) (m : Manager) (n : ℕ)
    → ◌≡◌ {A = Option (ℕ × Manager × ℕ)} (Some (o, m, n)) (option_map {U = ℕ × Manager × ℕ} (λ p. (p.owner, p.manager, p.number)) (place_of plan place))
    → (o - 1 < length plan.setup.managers) × (1 ≤ o)
owner-within plan place o m n e = go (place_of plan place) refl e
  where
    go : (q : Option Place) → place_of plan place ≡ q
        → ◌≡◌ {A = Option (ℕ × Manager × ℕ)} (Some (o, m, n)) (option_map {U = ℕ × Manager × ℕ} (λ p. (p.owner, p.manager, p.number)) q)
        → (o - 1 < length plan.setup.managers) × (1 ≤ o)
    go (Some p) is e =
        let t : ◌≡◌ {A = ℕ × Manager × ℕ} (o, m, n) (p.owner, p.manager, p.number) = same_Some _ _ e in
        let own : o ≡ p.owner = ap (λ (x : ℕ × Manager × ℕ). x.0) t in
        let a = owner-has plan place p is in
        let within : p.owner - 1 < length plan.setup.managers = slice_get_within plan.setup.managers (p.owner - 1) p.manager a.0 in
        (omega (arith, own, within), omega (arith, own, a.1))
    go None is e = cc
