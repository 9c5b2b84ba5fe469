-- Requests that have a class, and a slot in it.
use Rattle.std.specs.Prelude.{◌≡◌, ℕ, ◌+◌, ◌<◌, ◌≤◌, ◌==◌, Bool, if◌then◌else◌, List, [], ◌∷◌, ◌++◌, length, Some, slice_get, slice_index, slice_set}
use Rattle.conc_types.specs.declared.plan.Plan.{Plan}
use Rattle.conc_types.specs.declared.plan.Req.{Req}
use Rattle.conc_types.specs.Words.{some_and}
use Rattle.conc_event_classes.specs.declared.kinds.Head.{Head}
use Rattle.conc_event_classes.specs.declared.partition.Partition.{Partition}
use Rattle.conc_event_classes.specs.Kinds.{Kind, kind_at, kind_eq, kind_of}
use Rattle.conc_event_classes.specs.Shelf.{IsShelf}

-- the requests of a class, by the class of each
abbrev pub picked : ℕ → List ℕ → List Req → List Req
picked c [] rs = []
picked c (k ∷ ks) [] = []
picked c (k ∷ ks) (r ∷ rs) = if k == c then r ∷ picked c ks rs else picked c ks rs

-- the class and the slot of each request, the size of each class, and its head
pub record ArePartitioned (plan : Plan) (rs : List Req) (classes slots sizes : List ℕ) (heads : List Head) : Type 0 where
  pub each_class : length classes ≡ length rs
  pub each_slot : length slots ≡ length rs
  pub each_head : length heads ≡ length sizes
  pub known : (i c : ℕ) → slice_get classes i ≡ Some c → c < length sizes
  pub sized : (c n : ℕ) → slice_get sizes c ≡ Some n → length (picked c classes rs) ≡ n
  pub located : (i c s : ℕ) (r : Req) → slice_get classes i ≡ Some c → slice_get slots i ≡ Some s → slice_get rs i ≡ Some r → slice_get (picked c classes rs) s ≡ Some r
  pub kinds : (i c : ℕ) (r : Req) (head : Head) → slice_get classes i ≡ Some c → slice_get rs i ≡ Some r → slice_get heads c ≡ Some head → kind_at plan head ≡ kind_of plan r

-- the class with this number is of the kind
unfoldable pub is_of_kind : Plan → List Head → Kind → ℕ → Bool
is_of_kind plan heads kind c = some_and (λ head. kind_eq (kind_at plan head) kind) (slice_get heads c)

-- these requests have their places, in no more classes than there are requests
pub record IsPartition (plan : Plan) (rs : List Req) (s : Partition) : Type 0 where
  pub located : ArePartitioned plan rs s.classes.items s.slots.items s.sizes.items s.heads.items
  pub few : length s.heads.items ≤ length rs
  pub shelf : IsShelf s.shelf

-- one more request has the class, and its next slot
pub record IsJoined (old new : Partition) (c : ℕ) : Type 0 where
  pub classes : new.classes.items ≡ old.classes.items ++ c ∷ []
  pub slots : new.slots.items ≡ old.slots.items ++ slice_index old.sizes.items c ∷ []
  pub sizes : new.sizes.items ≡ slice_set old.sizes.items c (slice_index old.sizes.items c + 1)
  pub heads : new.heads.items ≡ old.heads.items
  pub shelf : new.shelf ≡ old.shelf

-- one more request has a new class, and its first slot
pub record IsOpened (old new : Partition) (head : Head) : Type 0 where
  pub classes : new.classes.items ≡ old.classes.items ++ length old.heads.items ∷ []
  pub slots : new.slots.items ≡ old.slots.items ++ 0 ∷ []
  pub sizes : new.sizes.items ≡ old.sizes.items ++ 1 ∷ []
  pub heads : new.heads.items ≡ old.heads.items ++ head ∷ []
  pub shelf : IsShelf new.shelf
