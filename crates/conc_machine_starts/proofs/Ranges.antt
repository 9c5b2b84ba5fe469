-- One value for each place.
use Rattle.std.proofs.Common.{◌≡◌, ℕ, zero, suc, ◌+◌, ◌<◌, ◌≤◌, List, [], ◌∷◌, ◌++◌, None, Some, get_or, length, map, set, refl, sym, ◌∙◌, ap, arith}
use Rattle.std.specs.Prelude.{slice_get}
use Rattle.std.specs.List.{range_with_len}
use Rattle.std.proofs.lemmas.List.FromFn.{length-map-range_with_len, map-range_with_len_more}
use Rattle.std.proofs.lemmas.Option.{slice_get_past}
use Rattle.conc_types.specs.declared.event.PlaceId.{PlaceId}
use Rattle.conc_types.specs.declared.plan.Plan.{Plan}
use Rattle.conc_base_law.specs.Places.{all_places, count_of_places}

-- two maps one after the other
pub map-map : {A B C : Type 0} (f : A → B) (g : B → C) (xs : List A) → map g (map f xs) ≡ map (λ x. g (f x)) xs
map-map f g [] = refl
map-map f g (x ∷ xs) = ap (λ l. g (f x) ∷ l) (map-map f g xs)

-- two functions that agree give one list
pub map-agree : {A B : Type 0} (f g : A → B) (xs : List A) → ((x : A) → g x ≡ f x) → map g xs ≡ map f xs
map-agree f g [] h = refl
map-agree f g (x ∷ xs) h = rw (h x) (ap (λ l. f x ∷ l) (map-agree f g xs h))

-- one place more
pub one_place_more : {B : Type 0} (f : PlaceId → B) (n : ℕ)
    → map f (map (λ index. record { index = index }) (range_with_len 0 (n + 1)))
    ≡ map f (map (λ index. record { index = index }) (range_with_len 0 n)) ++ f (record { index = n }) ∷ []
one_place_more f n =
    map-map (λ index. record { index = index }) f (range_with_len 0 (n + 1))
    ∙ map-range_with_len_more (λ index. f (record { index = index })) 0 n n (omega arith)
    ∙ ap (λ l. l ++ f (record { index = n }) ∷ []) (sym (map-map (λ index. record { index = index }) f (range_with_len 0 n)))

-- so many places are all
pub places-all : (plan : Plan) (n : ℕ) → n ≡ count_of_places plan → map (λ index. record { index = index }) (range_with_len 0 n) ≡ all_places plan
unfolding all_places
places-all plan n e = ap (λ k. map (λ index. record { index = index }) (range_with_len 0 k)) e

-- one value for each place is one for each index
pub over_places : {B : Type 0} (plan : Plan) (f : PlaceId → B)
    → map f (all_places plan) ≡ map (λ index. f (record { index = index })) (range_with_len 0 (count_of_places plan))
unfolding all_places
over_places plan f = map-map (λ index. record { index = index }) f (range_with_len 0 (count_of_places plan))

-- two functions that agree on the numbers of a range
pub range-agree : {B : Type 0} (f g : ℕ → B) (from count : ℕ) → ((j : ℕ) → from ≤ j → j < from + count → g j ≡ f j)
    → map g (range_with_len from count) ≡ map f (range_with_len from count)
range-agree f g from zero h = refl
range-agree f g from (suc count) h =
    rw (h from (omega arith) (omega arith))
    (ap (λ l. f from ∷ l) (range-agree f g (from + 1) count (λ j low high. h j (omega arith) (omega arith))))

-- two functions that agree but at one number
pub range-set : {B : Type 0} (f g : ℕ → B) (h : B → B) (d : B) (from count k : ℕ)
    → ((j : ℕ) → (j ≡ from + k → ⊥) → g j ≡ f j) → g (from + k) ≡ h (f (from + k))
    → map g (range_with_len from count) ≡ set (map f (range_with_len from count)) k (h (get_or (map f (range_with_len from count)) k d))
range-set f g h d from zero k other own = refl
range-set f g h d from (suc count) zero other own =
    let at : from + 0 ≡ from = omega arith in
    let here : g from ≡ h (f from) = rw at at own in
    rw here (ap (λ l. h (f from) ∷ l) (range-agree f g (from + 1) count (λ j low high. other j (λ e. omega arith))))
range-set f g h d from (suc count) (suc k) other own =
    let at : from + suc k ≡ from + 1 + k = omega arith in
    let here : g from ≡ f from = other from (λ e. omega arith) in
    rw here (ap (λ l. f from ∷ l) (range-set f g h d (from + 1) count k (λ j ne. other j (λ e. ne (omega arith))) (rw at at own)))

-- a list with one value for each number
pub range-is : {B : Type 0} (f : ℕ → B) (d : B) (xs : List B) (from : ℕ) → ((k : ℕ) → k < length xs → get_or xs k d ≡ f (from + k))
    → xs ≡ map f (range_with_len from (length xs))
range-is f d [] from h = refl
range-is f d (x ∷ xs) from h =
    let start : from + 0 ≡ from = omega arith in
    let here : x ≡ f from = h 0 (omega arith) ∙ ap f start in
    let rest : xs ≡ map f (range_with_len (from + 1) (length xs)) =
    range-is f d xs (from + 1) (λ k low. let at : from + suc k ≡ from + 1 + k = omega arith in h (suc k) (omega arith) ∙ ap f at) in
    ap (λ y. y ∷ xs) here ∙ ap (λ l. f from ∷ l) rest

-- the value at an index of a range
pub range-at : {B : Type 0} (f : ℕ → B) (from count k : ℕ) → k < count → slice_get (map f (range_with_len from count)) k ≡ Some (f (from + k))
range-at f from zero k low = absurd (omega arith)
range-at f from (suc count) zero low = let start : from ≡ from + 0 = omega arith in ap (λ j. Some (f j)) start
range-at f from (suc count) (suc k) low =
    let at : from + 1 + k ≡ from + suc k = omega arith in
    range-at f (from + 1) count k (omega arith) ∙ ap (λ j. Some (f j)) at

-- ---- places

-- the value of a place
pub place-at : {B : Type 0} (plan : Plan) (f : PlaceId → B) (place : PlaceId) → place.index < count_of_places plan
    → slice_get (map f (all_places plan)) place.index ≡ Some (f place)
place-at plan f place low =
    let start : 0 + place.index ≡ place.index = omega arith in
    ap (λ l. slice_get l place.index) (over_places plan f)
    ∙ range-at (λ index. f (record { index = index })) 0 (count_of_places plan) place.index low
    ∙ ap (λ j. Some (f (record { index = j }))) start

-- beyond the places there is none
pub place-past : {B : Type 0} (plan : Plan) (f : PlaceId → B) (place : PlaceId) → count_of_places plan ≤ place.index
    → slice_get (map f (all_places plan)) place.index ≡ None
place-past plan f place high =
    ap (λ l. slice_get l place.index) (over_places plan f)
    ∙ slice_get_past (map (λ index. f (record { index = index })) (range_with_len 0 (count_of_places plan))) place.index
    (omega (arith, length-map-range_with_len (λ index. f (record { index = index })) 0 (count_of_places plan)))

-- how many there are
pub length-places : {B : Type 0} (plan : Plan) (f : PlaceId → B) → length (map f (all_places plan)) ≡ count_of_places plan
length-places plan f =
    ap length (over_places plan f) ∙ length-map-range_with_len (λ index. f (record { index = index })) 0 (count_of_places plan)

-- a list with one value for each place
pub places-are : {B : Type 0} (plan : Plan) (f : PlaceId → B) (d : B) (xs : List B) → length xs ≡ count_of_places plan
    → ((k : ℕ) → k < length xs → get_or xs k d ≡ f (record { index = k })) → xs ≡ map f (all_places plan)
places-are plan f d xs e h =
    range-is (λ index. f (record { index = index })) d xs 0
    (λ k low. let start : k ≡ 0 + k = omega arith in h k low ∙ ap (λ j. f (record { index = j })) start)
    ∙ ap (λ n. map (λ index. f (record { index = index })) (range_with_len 0 n)) e
    ∙ sym (over_places plan f)

-- one place's value changes
pub place-set : {B : Type 0} (plan : Plan) (f g : PlaceId → B) (h : B → B) (d : B) (place : PlaceId)
    → ((q : PlaceId) → (q.index ≡ place.index → ⊥) → g q ≡ f q) → g place ≡ h (f place)
    → map g (all_places plan) ≡ set (map f (all_places plan)) place.index (h (get_or (map f (all_places plan)) place.index d))
place-set plan f g h d place other own =
    let start : place.index ≡ 0 + place.index = omega arith in
    over_places plan g
    ∙ range-set (λ index. f (record { index = index })) (λ index. g (record { index = index })) h d 0 (count_of_places plan) place.index
    (λ j ne. other (record { index = j }) (λ e. ne (omega arith)))
    (ap (λ j. g (record { index = j })) (sym start) ∙ own ∙ ap (λ j. h (f (record { index = j }))) start)
    ∙ ap (λ l. set l place.index (h (get_or l place.index d))) (sym (over_places plan f))
