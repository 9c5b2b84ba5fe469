-- Classes of requests: those of one class exclude the same requests, but for kin.
use Rattle.std.specs.Prelude.{◌≡◌, ℕ, Bool, true, ◌&&◌, ◌||◌, ◌==◌, ◌<◌, nat_lt, IsFalse, IsTrue, List, [], ◌∷◌, length, Some, slice_get, unwrap_or}
use Rattle.std.specs.List.{filter, list_all, list_any}
use Rattle.conc_types.specs.declared.plan.Plan.{Plan}
use Rattle.conc_types.specs.declared.plan.Req.{Req}
use Rattle.conc_types.specs.Words.{numbered}
use Rattle.conc_base_law.specs.Exclusion.{excludes_from, is_kin}
use Rattle.conc_base_law.specs.Plans.{parent_item}
use Rattle.conc_base_law.specs.Words.{Has}
use Rattle.conc_event_classes.specs.declared.classes.Classes.{Classes}

-- x and y exclude each other, unless they are one or kin
unfoldable pub clash : Plan → Req → Req → Bool
clash plan x y = excludes_from plan.setup x y (parent_item plan y) || excludes_from plan.setup y x (parent_item plan x)

-- the class of a request, from 0, and its slot among those of its class, from 0
unfoldable pub class_at : Classes → Req → ℕ
class_at classes r = unwrap_or (numbered classes.classes r.number.number) 0

unfoldable pub slot_at : Classes → Req → ℕ
slot_at classes r = unwrap_or (numbered classes.slots r.number.number) 0

-- the requests of a class, in order
unfoldable pub of_class : Plan → Classes → ℕ → List Req
of_class plan classes c = filter (λ r. class_at classes r == c) plan.requests

-- the classes that exclude a class
unfoldable pub rivals_at : Classes → ℕ → List ℕ
rivals_at classes c = unwrap_or (slice_get classes.rivals c) []

unfoldable pub are_rivals : Classes → ℕ → ℕ → Bool
are_rivals classes c d = list_any (λ x. x == d) (rivals_at classes c)

-- whether a request of the class would exclude kin of its own, were they not kin
unfoldable pub excludes_kin_at : Classes → ℕ → Bool
excludes_kin_at classes c = unwrap_or (slice_get classes.excludes_kin c) true

-- each number is greater than the one before it, and below the limit
abbrev pub are_rising : ℕ → List ℕ → Bool
are_rising most [] = true
are_rising most (x ∷ xs) = nat_lt x most && (list_all (nat_lt x) xs && are_rising most xs)

-- the classes are those of the plan's requests
pub record AreClasses (plan : Plan) (classes : Classes) : Type 0 where
  pub known : (r : Req) → Has plan.requests r → class_at classes r < length classes.sizes
  pub sized : (c n : ℕ) → slice_get classes.sizes c ≡ Some n → length (of_class plan classes c) ≡ n
  pub located : (r : Req) → Has plan.requests r → slice_get (of_class plan classes (class_at classes r)) (slot_at classes r) ≡ Some r
  pub rivals : (x y : Req) → Has plan.requests x → Has plan.requests y → clash plan x y ≡ are_rivals classes (class_at classes x) (class_at classes y)
  pub rising : (c : ℕ) → IsTrue (are_rising (length classes.sizes) (rivals_at classes c))
  pub kin_marked : (q r : Req) → Has plan.requests q → Has plan.requests r → IsTrue (is_kin q r) → IsFalse (excludes_kin_at classes (class_at classes r)) → IsFalse (clash plan q r)
