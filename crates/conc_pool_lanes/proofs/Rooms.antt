-- Lists that are shorter than a number.
use Rattle.std.proofs.Common.{◌≡◌, ℕ, ◌<◌, suc, zero, Bool, true, false, List, [], ◌∷◌, ◌++◌, Option, Some, None, length, length-append, replicate, if◌then◌else◌, refl, arith}
use Rattle.std.proofs.lemmas.Bool.{and_from, and_parts, lt-ltb, ltb-true}
use Rattle.std.specs.Prelude.{nat_lt}
use Rattle.conc_types.specs.declared.event.RequestId.{RequestId}
use Rattle.conc_types.specs.declared.manager.Manager.{Manager}
use Rattle.conc_types.specs.declared.plan.Plan.{Plan}
use Rattle.conc_types.specs.declared.plan.Req.{Req}
use Rattle.conc_base_law.specs.Managers.{admits}
use Rattle.conc_pool_lanes.specs.Lanes.{are_shorter, joined, joined_by, joined_one}

-- empty lists are shorter than any number but 0
pub empty-shorter : (n k : ℕ) → 0 < n → are_shorter n (replicate k []) ≡ true
empty-shorter n zero some = refl
empty-shorter n (suc k) some = and_from _ _ (lt-ltb _ _ some) (empty-shorter n k some)

-- one request more in a list
one-shorter : (n m : ℕ) (manager : Manager) (r : Req) (list : List RequestId) → n < m → nat_lt (length list) n ≡ true → nat_lt (length (joined_one manager r list)) m ≡ true
one-shorter n m manager r list less h = by (admits manager r)
  where
    by : (b : Bool) → nat_lt (length (if b then list ++ r.number ∷ [] else list)) m ≡ true
    by true = lt-ltb (length (list ++ r.number ∷ [])) m (omega (arith, less, ltb-true (length list) n h, length-append list (r.number ∷ [])))
    by false = lt-ltb (length list) m (omega (arith, less, ltb-true (length list) n h))

-- what is shorter than a number is shorter than a greater one
wider : (n m : ℕ) (lists : List (List RequestId)) → n < m → are_shorter n lists ≡ true → are_shorter m lists ≡ true
wider n m [] less h = refl
wider n m (l ∷ ls) less h =
    let p = and_parts (nat_lt (length l) n) (are_shorter n ls) h in
    and_from _ _ (lt-ltb (length l) m (omega (arith, less, ltb-true (length l) n p.0))) (wider n m ls less p.1)

-- one request more in each of some lists
joined-shorter : (n m : ℕ) (managers : List Manager) (r : Req) (lists : List (List RequestId)) → n < m → are_shorter n lists ≡ true → are_shorter m (joined managers r lists) ≡ true
unfolding joined
joined-shorter n m [] r lists less h = wider n m lists less h
joined-shorter n m (manager ∷ managers) r [] less h = refl
joined-shorter n m (manager ∷ managers) r (l ∷ ls) less h =
    let p = and_parts (nat_lt (length l) n) (are_shorter n ls) h in
    and_from _ _ (one-shorter n m manager r l less p.0) (joined-shorter n m managers r ls less p.1)

pub put-shorter : (n m : ℕ) (plan : Plan) (o : Option Req) (lists : List (List RequestId)) → n < m → are_shorter n lists ≡ true → are_shorter m (joined_by plan o lists) ≡ true
put-shorter n m plan (Some r) lists less h = joined-shorter n m plan.setup.managers r lists less h
put-shorter n m plan None lists less h = wider n m lists less h
