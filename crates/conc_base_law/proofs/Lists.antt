-- Lists whose elements agree.
use Rattle.std.proofs.Common.{◌≡◌, ◌⊎◌, ℕ, zero, suc, Bool, true, false, ◌&&◌, List, [], ◌∷◌, ◌++◌, map, reverse, Option, None, Some, refl, sym, ◌∙◌, ap, subst, inl, inr}
use Rattle.std.specs.Prelude.{slice_get}
use Rattle.std.specs.List.{filter, filter_map, list_all, list_any}
use Rattle.std.proofs.lemmas.Bool.{and_parts, both_ways, cases_Bool, cond-false, cond-true, or_cases, or_left, or_right}
use Rattle.std.proofs.lemmas.List.{reverse-append}
use Rattle.conc_base_law.specs.Words.{Has}

-- an element of two lists in a row is one of the first or of the second
pub has-append : {T : Type 0} (xs ys : List T) (x : T) → Has (xs ++ ys) x → Has xs x ⊎ Has ys x
has-append [] ys x h = inr h
has-append (y ∷ xs) ys x (inl e) = inl (inl e)
has-append (y ∷ xs) ys x (inr h) = elim (has-append xs ys x h) [ inl a ↦ inl (inr a) | inr b ↦ inr b ]

-- an element of a list the other way round is one of the list
pub has-reverse : {T : Type 0} (xs : List T) (x : T) → Has (reverse xs) x → Has xs x
has-reverse [] x h = h
has-reverse (y ∷ xs) x h =
    let k : Has (reverse xs ++ reverse (y ∷ [])) x = subst (λ l. Has l x) (reverse-append (y ∷ []) xs) h in
    elim (has-append (reverse xs) (reverse (y ∷ [])) x k) [
      | inl a ↦ inr (has-reverse xs x a)
      | inr b ↦ elim b [ inl e ↦ inl e | inr n ↦ absurd n ]
    ]

-- an element of the first is one of both
has-left : {T : Type 0} (xs ys : List T) (x : T) → Has xs x → Has (xs ++ ys) x
has-left [] ys x h = absurd h
has-left (y ∷ xs) ys x (inl e) = inl e
has-left (y ∷ xs) ys x (inr h) = inr (has-left xs ys x h)

-- so is an element of the second
has-right : {T : Type 0} (xs ys : List T) (x : T) → Has ys x → Has (xs ++ ys) x
has-right [] ys x h = h
has-right (y ∷ xs) ys x h = inr (has-right xs ys x h)

-- and the other way
pub reverse-has : {T : Type 0} (xs : List T) (x : T) → Has xs x → Has (reverse xs) x
reverse-has [] x h = h
reverse-has (y ∷ xs) x (inl e) =
    subst (λ l. Has l x) (sym (reverse-append (y ∷ []) xs)) (has-right (reverse xs) (reverse (y ∷ [])) x (inl e))
reverse-has (y ∷ xs) x (inr k) =
    subst (λ l. Has l x) (sym (reverse-append (y ∷ []) xs)) (has-left (reverse xs) (reverse (y ∷ [])) x (reverse-has xs x k))

-- an element stands at a position
pub has-get : {T : Type 0} (xs : List T) (x : T) → Has xs x → (i : ℕ) × (slice_get xs i ≡ Some x)
has-get [] x h = absurd h
has-get (y ∷ xs) x (inl e) = (zero, ap (λ z. Some z) (sym e))
has-get (y ∷ xs) x (inr h) = let p : (i : ℕ) × (slice_get xs i ≡ Some x) = has-get xs x h in (suc p.0, p.1)

-- what stands at a position is an element
pub get-has : {T : Type 0} (xs : List T) (i : ℕ) (x : T) → slice_get xs i ≡ Some x → Has xs x
get-has [] i x h = cc
get-has (y ∷ xs) zero x h = let e : y ≡ x = cc in inl (sym e)
get-has (y ∷ xs) (suc i) x h = inr (get-has xs i x h)

-- an element of a filtered list passes, and is one of the list
pub has-filter : {T : Type 0} (test : T → Bool) (xs : List T) (x : T) → Has (filter test xs) x → Has xs x × (test x ≡ true)
has-filter test [] x h = absurd h
has-filter {T} test (y ∷ xs) x h = elim (cases_Bool (test y)) [
  | inl t ↦
      let k : Has (y ∷ filter test xs) x = subst (λ l. Has l x) (cond-true (test y) (y ∷ filter test xs) (filter test xs) t) h in
      elim k [
        | inl e ↦ (inl e, ap test e ∙ t)
        | inr l ↦ let p : Has xs x × (test x ≡ true) = has-filter test xs x l in (inr p.0, p.1)
      ]
  | inr f ↦
      let k : Has (filter test xs) x = subst (λ l. Has l x) (cond-false (test y) (y ∷ filter test xs) (filter test xs) f) h in
      let p : Has xs x × (test x ≡ true) = has-filter test xs x k in (inr p.0, p.1)
]

-- a filter that all pass keeps the list
pub filter-all : {T : Type 0} (test : T → Bool) (xs : List T) → ((x : T) → test x ≡ true) → filter test xs ≡ xs
filter-all test [] h = refl
filter-all test (y ∷ xs) h =
    cond-true (test y) (y ∷ filter test xs) (filter test xs) (h y) ∙ ap (λ l. y ∷ l) (filter-all test xs h)

-- two tests that agree keep the same elements
pub filter-same : {T : Type 0} (f g : T → Bool) (xs : List T) → ((x : T) → f x ≡ g x) → filter f xs ≡ filter g xs
filter-same f g [] h = refl
filter-same f g (y ∷ xs) h = elim (cases_Bool (f y)) [
  | inl t ↦ cond-true (f y) (y ∷ filter f xs) (filter f xs) t ∙ ap (λ l. y ∷ l) (filter-same f g xs h)
      ∙ sym (cond-true (g y) (y ∷ filter g xs) (filter g xs) (sym (h y) ∙ t))
  | inr n ↦ cond-false (f y) (y ∷ filter f xs) (filter f xs) n ∙ filter-same f g xs h
      ∙ sym (cond-false (g y) (y ∷ filter g xs) (filter g xs) (sym (h y) ∙ n))
]

-- what all elements pass each of them passes
pub all-has : {T : Type 0} (test : T → Bool) (xs : List T) (x : T) → list_all test xs ≡ true → Has xs x → test x ≡ true
all-has test [] x h k = absurd k
all-has test (y ∷ xs) x h (inl e) = ap test e ∙ (and_parts (test y) _ h).0
all-has test (y ∷ xs) x h (inr k) = all-has test xs x (and_parts (test y) _ h).1 k

-- no element passes where none of them does
pub none-has : {T : Type 0} (test : T → Bool) (xs : List T) (x : T) → list_any test xs ≡ false → Has xs x → test x ≡ false
none-has {T} test xs x h k = elim (cases_Bool (test x)) [
  | inl t ↦ absurd (both_ways _ h (here xs k t))
  | inr f ↦ f
] where
  here : (ys : List T) → Has ys x → test x ≡ true → list_any test ys ≡ true
  here [] k t = absurd k
  here (y ∷ ys) (inl e) t = or_left _ _ (ap test (sym e) ∙ t)
  here (y ∷ ys) (inr k) t = or_right _ _ (here ys k t)

-- some element passes
pub any-has : {T : Type 0} (test : T → Bool) (xs : List T) → list_any test xs ≡ true → (x : T) × Has xs x × (test x ≡ true)
any-has test [] h = cc
any-has test (y ∷ xs) h = elim (or_cases (test y) _ h) [
  | inl t ↦ (y, inl refl, t)
  | inr l ↦ let p : (x : _) × Has xs x × (test x ≡ true) = any-has test xs l in (p.0, inr p.1, p.2)
]

-- two maps that agree on a list
pub map-same : {A B : Type 0} (f g : A → B) (xs : List A) → ((x : A) → Has xs x → f x ≡ g x) → map f xs ≡ map g xs
map-same f g [] h = refl
map-same f g (y ∷ xs) h = ap (λ z. z ∷ map f xs) (h y (inl refl)) ∙ ap (λ l. g y ∷ l) (map-same f g xs (λ x k. h x (inr k)))

-- the same, of the values that they give
pub filter_map-same : {A B : Type 0} (f g : A → Option B) (xs : List A) → ((x : A) → Has xs x → f x ≡ g x) → filter_map f xs ≡ filter_map g xs
filter_map-same f g [] h = refl
filter_map-same {A} {B} f g (y ∷ xs) h = by (f y) (g y) (h y (inl refl)) (filter_map-same f g xs (λ x k. h x (inr k))) refl refl where
  by : (a b : Option B) → a ≡ b → filter_map f xs ≡ filter_map g xs → f y ≡ a → g y ≡ b → filter_map f (y ∷ xs) ≡ filter_map g (y ∷ xs)
  by None None e k p q = rw p (rw q k)
  by (Some u) (Some v) e k p q = let same : u ≡ v = cc in rw p (rw q (ap (λ z. z ∷ filter_map f xs) same ∙ ap (λ l. v ∷ l) k))
  by None (Some v) e k p q = cc
  by (Some u) None e k p q = cc

-- a list of which the one passes and the other does is passed by both
pub all-same : {T : Type 0} (f g : T → Bool) (xs : List T) → ((x : T) → Has xs x → f x ≡ g x) → list_all f xs ≡ list_all g xs
all-same f g [] h = refl
all-same f g (y ∷ xs) h = ap (λ b. b && list_all f xs) (h y (inl refl)) ∙ ap (λ b. g y && b) (all-same f g xs (λ x k. h x (inr k)))
