-- The elements of a list that pass a test: whether there is one, and where they stand.
use Rattle.std.proofs.Common.{◌≡◌, ℕ, zero, suc, ◌+◌, ◌<◌, ◌≤◌, ◌==◌, Bool, true, false, ◌&&◌, ◌||◌, List, [], ◌∷◌, ◌++◌, length, map, Some, refl, sym, ◌∙◌, ap, arith, inl, inr}
use Rattle.std.specs.Prelude.{slice_get, if◌then◌else◌, nat_lt}
use Rattle.std.specs.List.{filter, list_all, list_any}
use Rattle.std.proofs.lemmas.Bool.{cases_Bool, and_from, eq-eqb, ne_eqb}
use Rattle.std.proofs.lemmas.Bool.Decides.{nat_tests}
use Rattle.conc_event_classes.specs.Classes.{are_rising}
use Rattle.conc_event_classes.specs.Places.{places_from}

-- ---- whether there is one

pub any_filtered : {T : Type 0} (p q : T → Bool) (xs : List T) → list_any (λ x. p x && q x) xs ≡ list_any q (filter p xs)
any_filtered p q [] = refl
any_filtered p q (x ∷ xs) = elim (cases_Bool (p x)) [
  | inl t ↦ rw t (ap (λ b. q x || b) (any_filtered p q xs))
  | inr f ↦ rw f (any_filtered p q xs)
]

pub any_filtered_by : {T : Type 0} (p q r : T → Bool) (xs : List T) → list_any (λ x. p x && (q x && r x)) xs ≡ list_any (λ x. p x && r x) (filter q xs)
any_filtered_by p q r [] = refl
any_filtered_by p q r (x ∷ xs) = elim (cases_Bool (q x)) [
  | inl t ↦ rw t (ap (λ b. (p x && r x) || b) (any_filtered_by p q r xs))
  | inr f ↦ elim (cases_Bool (p x)) [
    | inl t ↦ rw (f, t) (any_filtered_by p q r xs)
    | inr g ↦ rw (f, g) (any_filtered_by p q r xs)
  ]
]

-- ---- where they stand

-- none stands before the list begins
places-any_none : {T : Type 0} (test : T → Bool) (n d : ℕ) (xs : List T) → d < n → list_any (λ i. i == d) (places_from test n xs) ≡ false
unfolding places_from
places-any_none test n d [] h = refl
places-any_none test n d (x ∷ xs) h =
    let later : list_any (λ i. i == d) (places_from test (n + 1) xs) ≡ false = places-any_none test (n + 1) d xs (omega arith) in
    elim (cases_Bool (test x)) [
      | inl t ↦ rw t (rw (ne_eqb n d (λ e. omega (arith, e, h))) later)
      | inr f ↦ rw f later
    ]

-- an index is among them where its element passes
pub places-any : {T : Type 0} (test : T → Bool) (n d k : ℕ) (xs : List T) (x : T) → d ≡ n + k → slice_get xs k ≡ Some x
    → list_any (λ i. i == d) (places_from test n xs) ≡ test x
unfolding places_from
places-any test n d k [] x e h = cc
places-any test n d zero (y ∷ xs) x e h =
    let same : y ≡ x = cc in
    elim (cases_Bool (test y)) [
      | inl t ↦ rw t (rw (eq-eqb n d (omega (arith, e))) (sym t ∙ ap test same))
      | inr f ↦ rw f (places-any_none test (n + 1) d xs (omega (arith, e)) ∙ (sym f ∙ ap test same))
    ]
places-any test n d (suc k) (y ∷ xs) x e h =
    let later : list_any (λ i. i == d) (places_from test (n + 1) xs) ≡ test x = places-any test (n + 1) d k xs x (omega (arith, e)) h in
    elim (cases_Bool (test y)) [
      | inl t ↦ rw t (rw (ne_eqb n d (λ z. omega (arith, z, e))) later)
      | inr f ↦ rw f later
    ]

-- all stand at or after its beginning
places-above : {T : Type 0} (test : T → Bool) (m n : ℕ) (xs : List T) → m < n → list_all (nat_lt m) (places_from test n xs) ≡ true
unfolding places_from
places-above test m n [] h = refl
places-above test m n (x ∷ xs) h =
    let later : list_all (nat_lt m) (places_from test (n + 1) xs) ≡ true = places-above test m (n + 1) xs (omega arith) in
    let here : nat_lt m n ≡ true = grind (arith, nat_tests) in
    elim (cases_Bool (test x)) [
      | inl t ↦ rw t (and_from _ _ here later)
      | inr f ↦ rw f later
    ]

-- they rise
pub places-rising : {T : Type 0} (test : T → Bool) (most n : ℕ) (xs : List T) → n + length xs ≤ most → are_rising most (places_from test n xs) ≡ true
unfolding places_from
places-rising test most n [] h = refl
places-rising test most n (x ∷ xs) h =
    let later : are_rising most (places_from test (n + 1) xs) ≡ true = places-rising test most (n + 1) xs (omega (arith, h)) in
    let below : n < most = omega (arith, h) in
    let here : nat_lt n most ≡ true = grind (arith, nat_tests) in
    elim (cases_Bool (test x)) [
      | inl t ↦ rw t (and_from _ _ here (and_from _ _ (places-above test n (n + 1) xs (omega arith)) later))
      | inr f ↦ rw f later
    ]

-- ---- what is made of each

pub get-mapped : {A B : Type 0} (f : A → B) (xs : List A) (i : ℕ) (x : A) → slice_get xs i ≡ Some x → slice_get (map f xs) i ≡ Some (f x)
get-mapped f [] i x h = cc
get-mapped f (y ∷ xs) zero x h = let same : y ≡ x = cc in ap (λ z. Some (f z)) same
get-mapped f (y ∷ xs) (suc i) x h = get-mapped f xs i x h
