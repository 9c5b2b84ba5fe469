-- Numbers that rise: those among them that pass a test are the indexes of the elements that pass.
use Rattle.std.proofs.Common.{◌≡◌, ℕ, zero, suc, ◌+◌, ◌<◌, Bool, true, false, List, [], ◌∷◌, length, get_or, Some, refl, sym, ◌∙◌, ap, arith, inl, inr}
use Rattle.std.specs.Prelude.{slice_get, if◌then◌else◌}
use Rattle.std.specs.List.{Contains, dedup, filter}
use Rattle.std.specs.List.Retain.{DiffersFromLast, IsFiltered}
use Rattle.std.specs.List.Sorted.{IsPermutation, IsSorted}
use Rattle.std.specs.Ordering.{nat_cmp}
use Rattle.std.proofs.Math.Dec.{eqb}
use Rattle.std.proofs.lemmas.Bool.{both_ways, cases_Bool}
use Rattle.std.proofs.lemmas.List.Filters.{dedup_is}
use Rattle.std.proofs.lemmas.List.Kept.{AllPairs-from_increasing, Contains-dedup_nat}
use Rattle.std.proofs.lemmas.List.Sorted.{Contains-permutation}
use Rattle.std.proofs.lemmas.Map.Keys.{IsStrictlyIncreasing-dedup}
use Rattle.conc_types.specs.Words.{some_and}
use Rattle.conc_base_law.specs.Words.{Has}
use Rattle.conc_base_law.proofs.Options.{some_and-some}
use Rattle.conc_event_classes.specs.Places.{places_from}

-- ---- lists that rise

-- each number is below those behind it
abbrev Rises : List ℕ → Type 0
Rises [] = Unit {0}
Rises (x ∷ xs) = ((c : ℕ) → Has xs c → x < c) × Rises xs

-- two that have the same numbers are equal
rises-alike : (xs ys : List ℕ) → Rises xs → Rises ys → ((c : ℕ) → Has xs c → Has ys c) → ((c : ℕ) → Has ys c → Has xs c) → xs ≡ ys
rises-alike [] [] a b f g = refl
rises-alike [] (y ∷ ys) a b f g = absurd (g y (inl refl))
rises-alike (x ∷ xs) [] a b f g = absurd (f x (inl refl))
rises-alike (x ∷ xs) (y ∷ ys) a b f g =
    let same : x ≡ y = elim (f x (inl refl)) [
      | inl here ↦ here
      | inr later ↦ elim (g y (inl refl)) [ inl here ↦ sym here | inr behind ↦ absurd (omega (arith, b.0 x later, a.0 y behind)) ]
    ] in
    let rest : xs ≡ ys = rises-alike xs ys a.1 b.1
    (λ c h. elim (f c (inr h)) [ inl here ↦ absurd (omega (arith, a.0 c h, here, same)) | inr later ↦ later ])
    (λ c h. elim (g c (inr h)) [ inl here ↦ absurd (omega (arith, b.0 c h, here, same)) | inr later ↦ later ]) in
    cc

-- where an element stands
has-contains : (xs : List ℕ) (x : ℕ) → Has xs x → (k : ℕ) × (k < length xs) × (get_or xs k x ≡ x)
has-contains [] x h = absurd h
has-contains (y ∷ ys) x h = elim h [
  | inl same ↦ (0, omega arith, sym same)
  | inr later ↦
      let w : (k : ℕ) × (k < length ys) × (get_or ys k x ≡ x) = has-contains ys x later in
      (suc w.0, omega (arith, w.1), w.2)
]

contains-has : (xs : List ℕ) (x k : ℕ) → k < length xs → get_or xs k x ≡ x → Has xs x
contains-has [] x k h e = absurd (omega arith)
contains-has (y ∷ ys) x zero h e = inl (sym e)
contains-has (y ∷ ys) x (suc k) h e = inr (contains-has ys x k (omega arith) e)

rises-pairs : (xs : List ℕ) → ((i j d : ℕ) → i < j → j < length xs → get_or xs i d < get_or xs j d) → Rises xs
rises-pairs [] h = tt
rises-pairs (x ∷ xs) h = (
  λ c has.
      let w : (k : ℕ) × (k < length xs) × (get_or xs k c ≡ c) = has-contains xs c has in
      let below : x < get_or xs w.0 c = h 0 (suc w.0) c (omega arith) (omega (arith, w.1)) in
      omega (arith, below, w.2),
  rises-pairs xs (λ i j d a b. h (suc i) (suc j) d (omega (arith, a)) (omega (arith, b))),
)

-- ---- those that pass

has-filter : {T : Type 0} (p : T → Bool) (xs : List T) (x : T) → Has xs x → p x ≡ true → Has (filter p xs) x
has-filter p [] x h t = absurd h
has-filter p (y ∷ ys) x h pass = elim (cases_Bool (p y)) [
  | inl t ↦ rw t (elim h [ inl same ↦ inl same | inr later ↦ inr (has-filter p ys x later pass) ])
  | inr f ↦ rw f (elim h [
    | inl same ↦ absurd (both_ways _ f (sym (ap p same) ∙ pass))
    | inr later ↦ has-filter p ys x later pass
  ])
]

has-filtered : {T : Type 0} (p : T → Bool) (xs : List T) (x : T) → Has (filter p xs) x → Has xs x × (p x ≡ true)
has-filtered p [] x h = absurd h
has-filtered {T} p (y ∷ ys) x h = by (p y) refl (has-filtered p ys x) h where
  by : (b : Bool) → p y ≡ b → (Has (filter p ys) x → Has ys x × (p x ≡ true)) → Has (if b then y ∷ filter p ys else filter p ys) x
      → Has (y ∷ ys) x × (p x ≡ true)
  by true e rest k = elim k [
    | inl same ↦ (inl same, ap p same ∙ e)
    | inr later ↦ (inr (rest later).0, (rest later).1)
  ]
  by false e rest k = (inr (rest k).0, (rest k).1)

rises-filter : (p : ℕ → Bool) (xs : List ℕ) → Rises xs → Rises (filter p xs)
rises-filter p [] h = tt
rises-filter p (x ∷ xs) h = elim (cases_Bool (p x)) [
  | inl t ↦ rw t (λ c has. h.0 c (has-filtered p xs c has).0, rises-filter p xs h.1)
  | inr f ↦ rw f (rises-filter p xs h.1)
]

-- ---- the indexes of the elements that pass

has-places : {T : Type 0} (test : T → Bool) (n k : ℕ) (xs : List T) (x : T) → slice_get xs k ≡ Some x → test x ≡ true
    → Has (places_from test n xs) (n + k)
unfolding places_from
has-places test n k [] x h t = cc
has-places test n zero (y ∷ ys) x h t =
    let same : y ≡ x = cc in
    rw (ap test same ∙ t) (inl (omega arith))
has-places test n (suc k) (y ∷ ys) x h pass =
    let later : Has (places_from test (n + 1) ys) (n + 1 + k) = has-places test (n + 1) k ys x h pass in
    let at : n + 1 + k ≡ n + suc k = omega arith in
    let moved : Has (places_from test (n + 1) ys) (n + suc k) = rw at at later in
    elim (cases_Bool (test y)) [ inl t ↦ rw t (inr moved) | inr f ↦ rw f moved ]

places-has : {T : Type 0} (test : T → Bool) (n c : ℕ) (xs : List T) → Has (places_from test n xs) c
    → (k : ℕ) × (x : T) × (c ≡ n + k) × (slice_get xs k ≡ Some x) × (test x ≡ true)
unfolding places_from
places-has test n c [] h = absurd h
places-has {T} test n c (y ∷ ys) h = by (test y) refl (places-has test (n + 1) c ys) h where
  behind : (k : ℕ) × (x : T) × (c ≡ n + 1 + k) × (slice_get ys k ≡ Some x) × (test x ≡ true)
      → (k : ℕ) × (x : T) × (c ≡ n + k) × (slice_get (y ∷ ys) k ≡ Some x) × (test x ≡ true)
  behind w = (suc w.0, w.1, omega (arith, w.2), w.3, w.4)

  by : (b : Bool) → test y ≡ b
      → (Has (places_from test (n + 1) ys) c → (k : ℕ) × (x : T) × (c ≡ n + 1 + k) × (slice_get ys k ≡ Some x) × (test x ≡ true))
      → Has (if b then n ∷ places_from test (n + 1) ys else places_from test (n + 1) ys) c
      → (k : ℕ) × (x : T) × (c ≡ n + k) × (slice_get (y ∷ ys) k ≡ Some x) × (test x ≡ true)
  by true e rest k = elim k [
    | inl same ↦ (0, y, omega (arith, same), refl, e)
    | inr later ↦ behind (rest later)
  ]
  by false e rest k = behind (rest k)

rises-places : {T : Type 0} (test : T → Bool) (n : ℕ) (xs : List T) → Rises (places_from test n xs)
unfolding places_from
rises-places test n [] = tt
rises-places {T} test n (y ∷ ys) = elim (cases_Bool (test y)) [
  | inl t ↦ rw t (above, rises-places test (n + 1) ys)
  | inr f ↦ rw f (rises-places test (n + 1) ys)
] where
  above : (c : ℕ) → Has (places_from test (n + 1) ys) c → n < c
  above c h =
      let w : (k : ℕ) × (x : T) × (c ≡ n + 1 + k) × (slice_get ys k ≡ Some x) × (test x ≡ true) = places-has test (n + 1) c ys h in
      omega (arith, w.2)

-- numbers that rise, among which is the index of each element that passes: those that pass are these indexes
rising-places : {T : Type 0} (test : T → Bool) (xs : List T) (found : List ℕ) → Rises found
    → ((c : ℕ) (x : T) → slice_get xs c ≡ Some x → test x ≡ true → Has found c)
    → filter (λ c. some_and test (slice_get xs c)) found ≡ places_from test 0 xs
rising-places {T} test xs found rises all =
    rises-alike _ _ (rises-filter _ found rises) (rises-places test 0 xs) there back where
      there : (c : ℕ) → Has (filter (λ c. some_and test (slice_get xs c)) found) c → Has (places_from test 0 xs) c
      there c h =
          let passes : some_and test (slice_get xs c) ≡ true = (has-filtered (λ c. some_and test (slice_get xs c)) found c h).1 in
          let w : (x : T) × (slice_get xs c ≡ Some x) × (test x ≡ true) = some_and-some test (slice_get xs c) passes in
          let at : 0 + c ≡ c = omega arith in
          rw at at (has-places test 0 c xs w.0 w.1 w.2)

      back : (c : ℕ) → Has (places_from test 0 xs) c → Has (filter (λ c. some_and test (slice_get xs c)) found) c
      back c h =
          let w : (k : ℕ) × (x : T) × (c ≡ 0 + k) × (slice_get xs k ≡ Some x) × (test x ≡ true) = places-has test 0 c xs h in
          let at : w.0 ≡ c = omega (arith, w.2) in
          let here : slice_get xs c ≡ Some w.1 = ap (slice_get xs) (sym at) ∙ w.3 in
          has-filter (λ c. some_and test (slice_get xs c)) found c (all c w.1 here w.4) (ap (some_and test) here ∙ w.4)

-- so numbers in any order, once they are sorted and each is left once
pub sorted-places : {T : Type 0} (test : T → Bool) (xs : List T) (found sorted rising : List ℕ) → IsPermutation found sorted
    → IsSorted nat_cmp sorted → IsFiltered (DiffersFromLast eqb) [] sorted rising
    → ((c : ℕ) (x : T) → slice_get xs c ≡ Some x → test x ≡ true → Has found c)
    → filter (λ c. some_and test (slice_get xs c)) rising ≡ places_from test 0 xs
sorted-places {T} test xs found sorted rising same order left all =
    rising-places test xs rising rises (λ c x here t. kept c (all c x here t)) where
      once : rising ≡ dedup eqb sorted
      once = dedup_is eqb sorted rising left

      rises : Rises rising
      rises = rw once (rises-pairs (dedup eqb sorted) (λ i j d a b. AllPairs-from_increasing (dedup eqb sorted) (IsStrictlyIncreasing-dedup sorted order) i j d a b))

      kept : (c : ℕ) → Has found c → Has rising c
      kept c h =
          let w : Contains (dedup eqb sorted) c = Contains-dedup_nat sorted c (Contains-permutation found sorted c same (has-contains found c h)) in
          rw once (contains-has (dedup eqb sorted) c w.0 w.1 w.2)
