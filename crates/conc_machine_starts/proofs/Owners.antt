-- The manager that has a place stands in the list of the managers where the place says.
use Rattle.std.proofs.Common.{◌≡◌, ℕ, suc, ◌+◌, ◌-◌, ◌<◌, ◌≤◌, Bool, true, false, nat_lt, List, [], ◌∷◌, None, Some, if◌then◌else◌, refl, ◌∙◌, ap, arith}
use Rattle.std.specs.Prelude.{slice_get}
use Rattle.std.specs.List.{sum_by}
use Rattle.std.proofs.lemmas.Bool.{ltb-false, ltb-true}
use Rattle.std.proofs.lemmas.List.Sums.{sum_by-cons}
use Rattle.conc_types.specs.declared.event.PlaceId.{PlaceId}
use Rattle.conc_types.specs.declared.manager.Manager.{Manager}
use Rattle.conc_types.specs.declared.plan.Plan.{Plan}
use Rattle.conc_types.specs.Shifts.{most_places}
use Rattle.conc_base_law.specs.Places.{count_of_places, Place, place_from, place_of}

-- a place among those of these managers, the first of which has this number
pub record IsAmong (owner : ℕ) (managers : List Manager) (index : ℕ) (p : Place) : Type 0 where
  pub manager : slice_get managers (p.owner - owner) ≡ Some p.manager
  pub low : owner ≤ p.owner
  pub within : index < sum_by (λ m. most_places m.shifts) managers

-- what is found is among them
place_from-some : (owner : ℕ) (managers : List Manager) (index : ℕ) (p : Place) → place_from owner managers index ≡ Some p → IsAmong owner managers index p
place_from-some owner [] index p h = cc
place_from-some owner (m ∷ ms) index p h =
    by (nat_lt index (most_places m.shifts)) refl h (place_from-some (owner + 1) ms (index - most_places m.shifts) p) where
      by : (b : Bool) → nat_lt index (most_places m.shifts) ≡ b
          → (if b then Some (record { owner = owner; manager = m; number = index + 1 }) else place_from (owner + 1) ms (index - most_places m.shifts)) ≡ Some p
          → (place_from (owner + 1) ms (index - most_places m.shifts) ≡ Some p → IsAmong (owner + 1) ms (index - most_places m.shifts) p)
          → IsAmong owner (m ∷ ms) index p
      by true test is later =
          let here : index < most_places m.shifts = ltb-true index (most_places m.shifts) test in
          let e : ◌≡◌ {A = Place} record { owner = owner; manager = m; number = index + 1 } p = cc in
          let own : owner ≡ p.owner = ap (λ q. q.owner) e in
          let at : p.owner - owner ≡ 0 = omega arith in
          record {
            manager = ap (slice_get (m ∷ ms)) at ∙ ap (λ q. Some q.manager) e;
            low = omega arith;
            within = omega (arith, sum_by-cons (λ q. most_places q.shifts) m ms);
          }
      by false test is later =
          let a : IsAmong (owner + 1) ms (index - most_places m.shifts) p = later is in
          let low : owner + 1 ≤ p.owner = a.low in
          let at : p.owner - owner ≡ suc (p.owner - (owner + 1)) = omega arith in
          let not_here : most_places m.shifts ≤ index = ltb-false index (most_places m.shifts) test in
          record {
            manager = ap (slice_get (m ∷ ms)) at ∙ a.manager;
            low = omega arith;
            within = omega (arith, a.within, sum_by-cons (λ q. most_places q.shifts) m ms);
          }

-- what is not found lies beyond them
place_from-none : (owner : ℕ) (managers : List Manager) (index : ℕ) → place_from owner managers index ≡ None → sum_by (λ m. most_places m.shifts) managers ≤ index
place_from-none owner [] index h = omega arith
place_from-none owner (m ∷ ms) index h =
    by (nat_lt index (most_places m.shifts)) refl h (place_from-none (owner + 1) ms (index - most_places m.shifts)) where
      by : (b : Bool) → nat_lt index (most_places m.shifts) ≡ b
          → (if b then Some (record { owner = owner; manager = m; number = index + 1 }) else place_from (owner + 1) ms (index - most_places m.shifts)) ≡ None
          → (place_from (owner + 1) ms (index - most_places m.shifts) ≡ None → sum_by (λ q. most_places q.shifts) ms ≤ index - most_places m.shifts)
          → sum_by (λ q. most_places q.shifts) (m ∷ ms) ≤ index
      by true test is later = cc
      by false test is later =
          let not_here : most_places m.shifts ≤ index = ltb-false index (most_places m.shifts) test in
          omega (arith, later is, sum_by-cons (λ q. most_places q.shifts) m ms)

-- a place of a plan
pub place_of-some : (plan : Plan) (place : PlaceId) (p : Place) → place_of plan place ≡ Some p
    → (slice_get plan.setup.managers (p.owner - 1) ≡ Some p.manager) × (place.index < count_of_places plan)
unfolding place_of count_of_places
place_of-some plan place p h = let a : IsAmong 1 plan.setup.managers place.index p = place_from-some 1 plan.setup.managers place.index p h in (a.manager, a.within)

pub place_of-none : (plan : Plan) (place : PlaceId) → place_of plan place ≡ None → count_of_places plan ≤ place.index
unfolding place_of count_of_places
place_of-none plan place h = place_from-none 1 plan.setup.managers place.index h
