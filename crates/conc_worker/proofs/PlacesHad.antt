-- A list of places has each of them.
use Rattle.std.proofs.Common.{◌≡◌, ℕ, zero, suc, ◌<◌, ◌==◌, ◌||◌, Bool, true, false, List, [], ◌∷◌, length, get_or, refl, ap, arith, eq-eqb}
use Rattle.conc_types.specs.declared.event.PlaceId.{PlaceId}
use Rattle.conc_pool_seats.specs.Places.{has}

either : (b c : Bool) → c ≡ true → b || c ≡ true
either true c e = refl
either false c e = e

pub has_at : (places : List PlaceId) (i : ℕ) (d : PlaceId) → i < length places → has places (get_or places i d) ≡ true
has_at [] i d l = absurd (omega arith)
has_at (p ∷ ps) zero d l = ap (λ b. b || has ps p) (eq-eqb p.index p.index refl)
has_at (p ∷ ps) (suc i) d l = let x = get_or ps i d in either (p.index == x.index) (has ps x) (has_at ps i d (omega arith))
