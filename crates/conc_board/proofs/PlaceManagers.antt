-- The manager that has a place stands in the setup where the place says.
use Rattle.std.proofs.Common.{◌≡◌, ℕ, suc, ◌+◌, ◌-◌, ◌<◌, ◌≤◌, zero, Bool, true, false, nat_lt, List, [], ◌∷◌, ◌++◌, Option, None, Some, length, sym, if◌then◌else◌, refl, ◌∙◌, ap, arith}
use Rattle.std.specs.Prelude.{slice_get}
use Rattle.std.specs.Option.{option_and_then, option_map}
use Rattle.std.proofs.lemmas.Option.{same_Some, slice_get_past}
use mathlib.Core.Logic.{dite}
use native.Mathlib.Decide.{ℕ_discrete}
use Rattle.conc_types.specs.declared.event.PlaceId.{PlaceId}
use Rattle.conc_types.specs.declared.manager.Manager.{Manager}
use Rattle.conc_types.specs.declared.plan.Plan.{Plan}
use Rattle.conc_types.specs.Shifts.{most_places}
use Rattle.conc_base_law.specs.Places.{Place, place_from, place_of}
use Rattle.conc_board.specs.Owners.{AreOwners, manager_at}

-- a place among those of these managers, the first of which has this number
record IsAmong (owner : ℕ) (managers : List Manager) (p : Place) : Type 0 where
  manager : slice_get managers (p.owner - owner) ≡ Some p.manager
  low : owner ≤ p.owner

among : (owner : ℕ) (managers : List Manager) (index : ℕ) (p : Place) → place_from owner managers index ≡ Some p → IsAmong owner managers p
among owner [] index p h = cc
among owner (m ∷ ms) index p h = by (nat_lt index (most_places m.shifts)) h (among (owner + 1) ms (index - most_places m.shifts) p)
  where
    by : (b : Bool)
        → (if b then Some (record { owner = owner; manager = m; number = index + 1 }) else place_from (owner + 1) ms (index - most_places m.shifts)) ≡ Some p
        → (place_from (owner + 1) ms (index - most_places m.shifts) ≡ Some p → IsAmong (owner + 1) ms p) → IsAmong owner (m ∷ ms) p
    by true is later =
        let e : ◌≡◌ {A = Place} record { owner = owner; manager = m; number = index + 1 } p = cc in
        let own : owner ≡ p.owner = ap (λ q. q.owner) e in
        let at : p.owner - owner ≡ 0 = omega arith in
        record { manager = ap (slice_get (m ∷ ms)) at ∙ ap (λ q. Some q.manager) e; low = omega arith }
    by false is later =
        let a : IsAmong (owner + 1) ms p = later is in
        let low : owner + 1 ≤ p.owner = a.low in
        let at : p.owner - owner ≡ suc (p.owner - (owner + 1)) = omega arith in
        record { manager = ap (slice_get (m ∷ ms)) at ∙ a.manager; low = omega arith }

-- a place of a plan
pub owner-has : (plan : Plan) (place : PlaceId) (p : Place) → place_of plan place ≡ Some p → (slice_get plan.setup.managers (p.owner - 1) ≡ Some p.manager) × (1 ≤ p.owner)
unfolding place_of
owner-has plan place p h = let a = among 1 plan.setup.managers place.index p h in (a.manager, a.low)

-- ---- what the call that finds a place says

pub owner-found : (plan : Plan) (place : PlaceId) (o : ℕ) (m : Manager) (n : ℕ)
    → ◌≡◌ {A = Option (ℕ × Manager × ℕ)} (Some (o, m, n)) (option_map {U = ℕ × Manager × ℕ} (λ p. (p.owner, p.manager, p.number)) (place_of plan place))
    → (slice_get plan.setup.managers (o - 1) ≡ manager_at plan place) × (1 ≤ o)
owner-found plan place o m n e = go (place_of plan place) refl e
  where
    go : (q : Option Place) → place_of plan place ≡ q
        → ◌≡◌ {A = Option (ℕ × Manager × ℕ)} (Some (o, m, n)) (option_map {U = ℕ × Manager × ℕ} (λ p. (p.owner, p.manager, p.number)) q)
        → (slice_get plan.setup.managers (o - 1) ≡ option_map (λ (p : Place). p.manager) q) × (1 ≤ o)
    go (Some p) is e =
        let t : ◌≡◌ {A = ℕ × Manager × ℕ} (o, m, n) (p.owner, p.manager, p.number) = same_Some _ _ e in
        let own : o ≡ p.owner = ap (λ (x : ℕ × Manager × ℕ). x.0) t in
        let a = owner-has plan place p is in
        (ap (λ k. slice_get plan.setup.managers (k - 1)) own ∙ a.0, omega (arith, own, a.1))
    go None is e = cc

pub owner-none : (plan : Plan) (place : PlaceId) → None ≡ option_map {U = ℕ × Manager × ℕ} (λ p. (p.owner, p.manager, p.number)) (place_of plan place)
    → slice_get plan.setup.managers 4294967295 ≡ manager_at plan place
owner-none plan place e = slice_get_past plan.setup.managers 4294967295 (omega (arith, plan.setup.few_managers)) ∙ go (place_of plan place) e
  where
    go : (q : Option Place) → None ≡ option_map {U = ℕ × Manager × ℕ} (λ p. (p.owner, p.manager, p.number)) q → None ≡ option_map (λ (p : Place). p.manager) q
    go (Some p) e = cc
    go None e = refl

-- ---- the list of all places

at-last : {A : Type 0} (xs : List A) (x : A) → slice_get (xs ++ x ∷ []) (length xs) ≡ Some x
at-last [] x = refl
at-last (y ∷ ys) x = at-last ys x

at-front : {A : Type 0} (xs ys : List A) (i : ℕ) → i < length xs → slice_get (xs ++ ys) i ≡ slice_get xs i
at-front [] ys i few = absurd (omega (arith, few))
at-front (x ∷ xs) ys zero few = refl
at-front (x ∷ xs) ys (suc i) few = at-front xs ys i (omega (arith, few))

-- one place more
pub owners-more : (plan : Plan) (n owner : ℕ) (owners : List ℕ) → length owners ≡ n → slice_get plan.setup.managers owner ≡ manager_at plan (record { index = n })
    → AreOwners plan n owners → AreOwners plan (n + 1) (owners ++ owner ∷ [])
owners-more plan n owner owners size own before place within = dite (ℕ_discrete place.index n)
    (λ e.
    let here : slice_get (owners ++ owner ∷ []) place.index ≡ Some owner = ap (slice_get (owners ++ owner ∷ [])) (e ∙ sym size) ∙ at-last owners owner in
    ap (option_and_then (slice_get plan.setup.managers)) here ∙ own ∙ ap (λ k. manager_at plan (record { index = k })) (sym e))
    (λ e.
    ap (option_and_then (slice_get plan.setup.managers)) (at-front owners (owner ∷ []) place.index (omega (arith, within, size, e)))
    ∙ before place (omega (arith, within, e)))
