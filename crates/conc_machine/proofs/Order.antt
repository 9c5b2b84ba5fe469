-- In readings that are in order, the earlier ones come first.
use Rattle.std.proofs.Common.{◌≡◌, ℕ, zero, suc, ◌<◌, ◌≤◌, Bool, true, false, List, [], ◌∷◌, length, drop, None, Some, refl, ap, arith}
use Rattle.std.specs.Prelude.{get_or, nat_le, nat_lt}
use Rattle.std.specs.List.{AllWithin, filter, list_all}
use Rattle.std.specs.List.Sorted.{IsNonDecreasingBy, IsPartitionPoint}
use Rattle.std.proofs.lemmas.Bool.{and_parts, leb-true}
use Rattle.std.proofs.lemmas.Bool.Decides.{nat_tests}
use Rattle.conc_types.specs.declared.event.Moment.{Moment}
use Rattle.conc_types.specs.declared.script.Reading.{Reading}
use Rattle.conc_types.specs.Scripts.{are_in_order}
use Rattle.conc_base_law.specs.State.{is_not_earlier}

-- each reading is not earlier than a first one
after_first : (n : ℕ) (qs : List Reading) (j : ℕ) (d : Reading) → list_all (λ r. nat_le n r.moment.seconds) qs ≡ true → j < length qs
    → n ≤ (get_or qs j d).moment.seconds
after_first n [] j d all h = absurd (omega arith)
after_first n (q ∷ qs) zero d all h = leb-true _ _ (and_parts (nat_le n q.moment.seconds) _ all).0
after_first n (q ∷ qs) (suc j) d all h = after_first n qs j d (and_parts (nat_le n q.moment.seconds) _ all).1 (omega arith)

-- the moments never fall
pub in_order-rises : (qs : List Reading) → are_in_order qs ≡ true → IsNonDecreasingBy (λ q. q.moment.seconds) qs
in_order-rises [] order i j d le h = absurd (omega arith)
in_order-rises (q ∷ qs) order zero zero d le h = omega arith
in_order-rises (q ∷ qs) order zero (suc j) d le h =
    after_first q.moment.seconds qs j d (and_parts (list_all (λ r. nat_le q.moment.seconds r.moment.seconds) qs) _ order).0 (omega arith)
in_order-rises (q ∷ qs) order (suc i) zero d le h = absurd (omega arith)
in_order-rises (q ∷ qs) order (suc i) (suc j) d le h =
    in_order-rises qs (and_parts (list_all (λ r. nat_le q.moment.seconds r.moment.seconds) qs) _ order).1 i j d (omega arith) (omega arith)

-- without a moment each reading is kept
pub none-earlier : (qs : List Reading) → filter (λ q. is_not_earlier None q.moment) qs ≡ qs
unfolding is_not_earlier
none-earlier [] = refl
none-earlier (q ∷ qs) = ap (λ l. q ∷ l) (none-earlier qs)

-- what fails comes first, and what passes behind it
filter-behind : {X : Type 0} (p : X → Bool) (xs : List X) (k : ℕ) → AllWithin (λ x. p x ≡ false) xs 0 k → AllWithin (λ x. p x ≡ true) xs k (length xs)
    → k ≤ length xs → filter p xs ≡ drop k xs
filter-behind p [] zero fails passes few = refl
filter-behind p [] (suc k) fails passes few = absurd (omega arith)
filter-behind {X = X} p (x ∷ xs) zero fails passes few =
    let here : p x ≡ true = passes 0 x (omega arith) (omega arith) in
    let behind : filter p xs ≡ xs =
    filter-behind p xs zero (λ i d low high. absurd (omega arith)) (λ i d low high. passes (suc i) d (omega arith) (omega arith)) (omega arith) in
    rw here (ap (λ (l : List X). x ∷ l) behind)
filter-behind p (x ∷ xs) (suc k) fails passes few =
    let here : p x ≡ false = fails 0 x (omega arith) (omega arith) in
    rw here
    (filter-behind p xs k (λ i d low high. fails (suc i) d (omega arith) (omega arith)) (λ i d low high. passes (suc i) d (omega arith) (omega arith)) (omega arith))

-- what is earlier than a moment is not what is not
earlier-not : (n m : ℕ) → nat_lt n m ≡ true → nat_le m n ≡ false
earlier-not n m h = grind (arith, nat_tests)

not_earlier-is : (n m : ℕ) → nat_lt n m ≡ false → nat_le m n ≡ true
not_earlier-is n m h = grind (arith, nat_tests)

-- those that are not earlier than a moment stand behind as many as are
pub readings-behind : (last : Moment) (qs : List Reading) (k : ℕ)
    → IsPartitionPoint (λ q. nat_lt q.moment.seconds last.seconds ≡ true) (λ q. nat_lt q.moment.seconds last.seconds ≡ false) qs k
    → k ≤ length qs → filter (λ q. is_not_earlier (Some last) q.moment) qs ≡ drop k qs
unfolding is_not_earlier
readings-behind last qs k point few =
    filter-behind (λ q. nat_le last.seconds q.moment.seconds) qs k
    (λ i d low high. earlier-not _ _ (point.0 i d low high))
    (λ i d low high. not_earlier-is _ _ (point.1 i d low high))
    few
