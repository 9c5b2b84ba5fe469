-- The partition after one more request of the plan.
use Rattle.std.proofs.Common.{◌≡◌, ℕ, suc, ◌<◌, ◌≤◌, Bool, true, false, List, [], ◌∷◌, ◌++◌, length, get_or, take, Option, Some, Bor, refl, sym, ◌∙◌, ap, arith, add-one}
use Rattle.std.specs.Prelude.{slice_get, slice_set, if◌then◌else◌}
use Rattle.std.specs.List.{find}
use Rattle.std.specs.Option.{option_copied}
use Rattle.std.proofs.lemmas.List.{length-append, length-take}
use Rattle.std.proofs.lemmas.Option.{slice_get-get_or, slice_get_within}
use Rattle.conc_types.specs.declared.plan.Plan.{Plan}
use Rattle.conc_types.specs.declared.plan.Req.{Req}
use Rattle.conc_base_law.proofs.Options.{some_and-some}
use Rattle.conc_base_law.proofs.Positions.{take-suc_at}
use Rattle.conc_event_classes.specs.declared.kinds.Head.{Head}
use Rattle.conc_event_classes.specs.declared.partition.Partition.{Partition}
use Rattle.conc_event_classes.specs.Kinds.{kind_at, kind_eq, kind_of}
use Rattle.conc_event_classes.specs.Partitions.{ArePartitioned, is_of_kind, IsJoined, IsOpened, IsPartition}
use Rattle.conc_event_classes.proofs.KindEquality.{kind_eq-true}
use Rattle.conc_event_classes.proofs.Slots.{joined, opened, picked-few}

-- what is found passes
found_passes : {T : Type 0} (test : T → Bool) (xs : List T) (x : T) → find test xs ≡ Some x → test x ≡ true
found_passes test [] x h = cc
found_passes {T} test (y ∷ ys) x h = by (test y) refl (found_passes test ys x) h where
  by : (b : Bool) → test y ≡ b → (find test ys ≡ Some x → test x ≡ true) → (if b then Some y else find test ys) ≡ Some x → test x ≡ true
  by true e rest k = let same : y ≡ x = cc in ap test (sym same) ∙ e
  by false e rest k = rest k

-- the class that is found is there, with a head of the kind that is looked for
found_class : (plan : Plan) (heads : List Head) (head : Head) (bucket : List ℕ) (c : ℕ)
    → find (is_of_kind plan heads (kind_at plan head)) bucket ≡ Some c
    → (other : Head) × (slice_get heads c ≡ Some other) × (kind_at plan other ≡ kind_at plan head)
unfolding is_of_kind
found_class plan heads head bucket c e =
    let w : (other : Head) × (slice_get heads c ≡ Some other) × (kind_eq (kind_at plan other) (kind_at plan head) ≡ true) =
    some_and-some (λ other. kind_eq (kind_at plan other) (kind_at plan head)) (slice_get heads c)
    (found_passes (is_of_kind plan heads (kind_at plan head)) bucket c e) in
    (w.0, w.1, kind_eq-true _ _ w.2)

-- so where the class is found by a copy
pub found_here : (plan : Plan) (heads slice : List Head) (head : Head) (bucket : List ℕ) (c : ℕ) (o : Option (Bor ℕ)) (p : Option ℕ)
    → slice ≡ heads → option_copied o ≡ find (is_of_kind plan slice (kind_at plan head)) bucket → p ≡ option_copied o → p ≡ Some c
    → (other : Head) × (slice_get heads c ≡ Some other) × (kind_at plan other ≡ kind_at plan head)
found_here plan heads slice head bucket c o p same found copied is =
    found_class plan heads head bucket c
    (sym (ap (λ (hs : List Head). find (is_of_kind plan hs (kind_at plan head)) bucket) same) ∙ (sym found ∙ (sym copied ∙ is)))

-- the size of a class is at most the number of requests
size_few : (plan : Plan) (i c : ℕ) (s : Partition) → IsPartition plan (take i plan.requests) s → c < length s.sizes.items
    → get_or s.sizes.items c 0 ≤ 16384
size_few plan i c s was within =
    let size : slice_get s.sizes.items c ≡ Some (get_or s.sizes.items c 0) = slice_get-get_or s.sizes.items c 0 within in
    omega (arith, was.located.sized c (get_or s.sizes.items c 0) size, picked-few c s.classes.items (take i plan.requests), length-take i plan.requests, plan.few)

-- so it is for the class that is found
pub found_few : (plan : Plan) (i c : ℕ) (other : Head) (s : Partition) → IsPartition plan (take i plan.requests) s
    → slice_get s.heads.items c ≡ Some other
    → (c < length s.sizes.items) × (get_or s.sizes.items c 0 ≤ 16384)
found_few plan i c other s was here =
    let within : c < length s.sizes.items = omega (arith, slice_get_within s.heads.items c other here, was.located.each_head) in
    (within, size_few plan i c s was within)

-- the request gets a slot in the class that is found
pub located_joined : (plan : Plan) (i c : ℕ) (r : Req) (other : Head) (old new : Partition) → IsPartition plan (take i plan.requests) old
    → slice_get plan.requests i ≡ Some r → slice_get old.heads.items c ≡ Some other → kind_at plan other ≡ kind_of plan r
    → IsJoined old new c → IsPartition plan (take (suc i) plan.requests) new
located_joined plan i c r other old new was here found same step =
    let more : take (suc i) plan.requests ≡ take i plan.requests ++ r ∷ [] = take-suc_at plan.requests i r here in
    let within : c < length old.sizes.items = omega (arith, slice_get_within old.heads.items c other found, was.located.each_head) in
    let now : ArePartitioned plan (take i plan.requests ++ r ∷ []) (old.classes.items ++ c ∷ []) (old.slots.items ++ get_or old.sizes.items c 0 ∷ [])
    (slice_set old.sizes.items c (suc (get_or old.sizes.items c 0))) old.heads.items =
    joined plan (take i plan.requests) old.classes.items old.slots.items old.sizes.items old.heads.items r c (get_or old.sizes.items c 0) other
    was.located (slice_get-get_or old.sizes.items c 0 within) found same in
    record {
      located = rw (more, step.classes, step.slots, step.sizes, step.heads, add-one) now;
      few = rw (more, step.heads) (omega (arith, was.few, length-append (take i plan.requests) (r ∷ [])));
      shelf = rw step.shelf was.shelf;
    }

-- the request gets a class of its own
pub located_opened : (plan : Plan) (i : ℕ) (r : Req) (head : Head) (old new : Partition) → IsPartition plan (take i plan.requests) old
    → slice_get plan.requests i ≡ Some r → kind_at plan head ≡ kind_of plan r
    → IsOpened old new head → IsPartition plan (take (suc i) plan.requests) new
located_opened plan i r head old new was here same step =
    let more : take (suc i) plan.requests ≡ take i plan.requests ++ r ∷ [] = take-suc_at plan.requests i r here in
    record {
      located = rw (more, step.classes, step.slots, step.sizes, step.heads)
          (opened plan (take i plan.requests) old.classes.items old.slots.items old.sizes.items old.heads.items head r (length old.heads.items) was.located refl same);
      few = rw (more, step.heads) (omega (arith, was.few, length-append (take i plan.requests) (r ∷ []), length-append old.heads.items (head ∷ [])));
      shelf = step.shelf;
    }
