-- Lists with a common front, of whose rests no element passes.
use Rattle.std.proofs.Common.{◌≡◌, ◌⊎◌, ℕ, zero, suc, ◌+◌, ◌<◌, ◌≤◌, Bool, true, false, cond, not, ◌&&◌, ◌||◌, List, [], ◌∷◌, ◌++◌, length, map, take, Option, None, Some, refl, sym, ◌∙◌, ap, inl, inr, arith}
use Rattle.std.specs.Prelude.{slice_get}
use Rattle.std.specs.List.{enumerate_from, filter, filter_map, find, list_all, list_any}
use Rattle.std.proofs.lemmas.Bool.{and_left, cases_Bool, cond-false, cond-true, or_from}
use Rattle.std.proofs.lemmas.Option.{same_Some}
use Rattle.conc_types.specs.Words.{numbered}
use Rattle.conc_base_law.specs.Words.{first_by, Has}
use Rattle.conc_base_law.proofs.Numbering.{numbered-at}

-- ---- elements

-- an element of two lists in a row is one of the first or of the second
pub has-append : {T : Type 0} (xs ys : List T) (x : T) → Has (xs ++ ys) x → Has xs x ⊎ Has ys x
has-append [] ys x h = inr h
has-append (y ∷ xs) ys x (inl e) = inl (inl e)
has-append (y ∷ xs) ys x (inr h) = elim (has-append xs ys x h) [ inl a ↦ inl (inr a) | inr b ↦ inr b ]

-- an element of the first is one of both
pub has-left : {T : Type 0} (xs ys : List T) (x : T) → Has xs x → Has (xs ++ ys) x
has-left [] ys x h = absurd h
has-left (y ∷ xs) ys x (inl e) = inl e
has-left (y ∷ xs) ys x (inr h) = inr (has-left xs ys x h)

-- so is an element of the second
pub has-right : {T : Type 0} (xs ys : List T) (x : T) → Has ys x → Has (xs ++ ys) x
has-right [] ys x h = h
has-right (y ∷ xs) ys x h = inr (has-right xs ys x h)

-- what stands at a place is an element
pub get-has : {T : Type 0} (xs : List T) (i : ℕ) (x : T) → slice_get xs i ≡ Some x → Has xs x
get-has [] i x h = cc
get-has (y ∷ xs) zero x h = let e : y ≡ x = cc in inl (sym e)
get-has (y ∷ xs) (suc i) x h = inr (get-has xs i x h)

-- an element stands at a place
pub has-get : {T : Type 0} (xs : List T) (x : T) → Has xs x → (i : ℕ) × (slice_get xs i ≡ Some x)
has-get [] x h = absurd h
has-get (y ∷ xs) x (inl e) = (zero, ap (λ z. Some z) (sym e))
has-get (y ∷ xs) x (inr h) = let p : (i : ℕ) × (slice_get xs i ≡ Some x) = has-get xs x h in (suc p.0, p.1)

-- a list with an element is not empty
pub has-length : {T : Type 0} (xs : List T) (x : T) → Has xs x → 0 < length xs
has-length [] x h = absurd h
has-length (y ∷ xs) x h = omega arith

-- an element that a filter keeps is one of the list
pub has-filter : {T : Type 0} (test : T → Bool) (xs : List T) (x : T) → Has (filter test xs) x → Has xs x
has-filter test [] x h = absurd h
has-filter test (y ∷ xs) x h = by (test y) (λ k. has-filter test xs x k) h where
  by : (b : Bool) → (Has (filter test xs) x → Has xs x) → Has (cond b (y ∷ filter test xs) (filter test xs)) x → Has (y ∷ xs) x
  by true later (inl e) = inl e
  by true later (inr k) = inr (later k)
  by false later k = inr (later k)

-- ---- two tests that agree on a front, and that no element of a rest passes

-- no element passes, so none is found
pub find_none : {T : Type 0} (test : T → Bool) (xs : List T) → ((x : T) → Has xs x → test x ≡ false) → find test xs ≡ None
find_none test [] h = refl
find_none test (y ∷ xs) h = cond-false (test y) (Some y) (find test xs) (h y (inl refl)) ∙ find_none test xs (λ x k. h x (inr k))

-- two tests that agree on a list find the same
pub find-same : {T : Type 0} (f g : T → Bool) (xs : List T) → ((x : T) → Has xs x → f x ≡ g x) → find f xs ≡ find g xs
find-same f g [] h = refl
find-same f g (x ∷ xs) h = ap (λ b. cond b (Some x) (find f xs)) (h x (inl refl)) ∙ ap (λ o. cond (g x) (Some x) o) (find-same f g xs (λ z k. h z (inr k)))

-- on lists with a common front
pub find-front : {T : Type 0} (f g : T → Bool) (xs ys zs : List T) → ((x : T) → Has xs x → f x ≡ g x)
    → ((x : T) → Has ys x → f x ≡ false) → ((x : T) → Has zs x → g x ≡ false) → find f (xs ++ ys) ≡ find g (xs ++ zs)
find-front f g [] ys zs same one another = find_none f ys one ∙ sym (find_none g zs another)
find-front f g (x ∷ xs) ys zs same one another =
    ap (λ b. cond b (Some x) (find f (xs ++ ys))) (same x (inl refl))
    ∙ ap (λ o. cond (g x) (Some x) o) (find-front f g xs ys zs (λ z h. same z (inr h)) one another)

any_none : {T : Type 0} (test : T → Bool) (xs : List T) → ((x : T) → Has xs x → test x ≡ false) → list_any test xs ≡ false
any_none test [] h = refl
any_none test (y ∷ xs) h = or_from _ _ (h y (inl refl)) (any_none test xs (λ x k. h x (inr k)))

-- some element passes the one where some element passes the other
pub any-front : {T : Type 0} (f g : T → Bool) (xs ys zs : List T) → ((x : T) → Has xs x → f x ≡ g x)
    → ((x : T) → Has ys x → f x ≡ false) → ((x : T) → Has zs x → g x ≡ false) → list_any f (xs ++ ys) ≡ list_any g (xs ++ zs)
any-front f g [] ys zs same one another = any_none f ys one ∙ sym (any_none g zs another)
any-front f g (x ∷ xs) ys zs same one another =
    ap (λ b. b || list_any f (xs ++ ys)) (same x (inl refl))
    ∙ ap (λ b. g x || b) (any-front f g xs ys zs (λ z h. same z (inr h)) one another)

filter_none : {T : Type 0} (test : T → Bool) (xs : List T) → ((x : T) → Has xs x → test x ≡ false) → filter test xs ≡ []
filter_none test [] h = refl
filter_none test (y ∷ xs) h = cond-false (test y) (y ∷ filter test xs) (filter test xs) (h y (inl refl)) ∙ filter_none test xs (λ x k. h x (inr k))

-- of the rest nothing is kept
pub filter-front : {T : Type 0} (test : T → Bool) (xs ys : List T) → ((x : T) → Has ys x → test x ≡ false) → filter test (xs ++ ys) ≡ filter test xs
filter-front test [] ys none = filter_none test ys none
filter-front test (x ∷ xs) ys none = ap (λ l. cond (test x) (x ∷ l) l) (filter-front test xs ys none)

-- the first by an order is the same
pub first_by-front : {T : Type 0} (before : T → T → Bool) (f g : T → Bool) (xs ys zs : List T) → ((x : T) → Has xs x → f x ≡ g x)
    → ((x : T) → Has ys x → f x ≡ false) → ((x : T) → Has zs x → g x ≡ false) → first_by before f (xs ++ ys) ≡ first_by before g (xs ++ zs)
first_by-front {T} before f g xs ys zs same one another =
    find-front (λ x. f x && not (list_any (λ y. f y && before y x) (xs ++ ys))) (λ x. g x && not (list_any (λ y. g y && before y x) (xs ++ zs))) xs ys zs
    (λ x h. ap (λ b. b && not (list_any (λ y. f y && before y x) (xs ++ ys))) (same x h) ∙ ap (λ b. g x && not b) (behind x))
    (λ x h. and_left _ _ (one x h))
    (λ x h. and_left _ _ (another x h)) where
      behind : (x : T) → list_any (λ y. f y && before y x) (xs ++ ys) ≡ list_any (λ y. g y && before y x) (xs ++ zs)
      behind x = any-front (λ y. f y && before y x) (λ y. g y && before y x) xs ys zs
          (λ y h. ap (λ b. b && before y x) (same y h)) (λ y h. and_left _ _ (one y h)) (λ y h. and_left _ _ (another y h))

-- ---- tests and functions that agree on the elements

-- all pass the one where all pass the other
pub all-same : {T : Type 0} (f g : T → Bool) (xs : List T) → ((x : T) → Has xs x → f x ≡ g x) → list_all f xs ≡ list_all g xs
all-same f g [] h = refl
all-same f g (y ∷ ys) h = ap (λ b. b && list_all f ys) (h y (inl refl)) ∙ ap (λ b. g y && b) (all-same f g ys (λ x k. h x (inr k)))

-- they map a list to one
pub map-same : {A B : Type 0} (f g : A → B) (xs : List A) → ((x : A) → Has xs x → f x ≡ g x) → map f xs ≡ map g xs
map-same f g [] h = refl
map-same f g (y ∷ ys) h = ap (λ z. z ∷ map f ys) (h y (inl refl)) ∙ ap (λ l. g y ∷ l) (map-same f g ys (λ x k. h x (inr k)))

-- the same, of the values that they give
pub filter_map-same : {A B : Type 0} (f g : A → Option B) (xs : List A) → ((x : A) → Has xs x → f x ≡ g x) → filter_map f xs ≡ filter_map g xs
filter_map-same f g [] h = refl
filter_map-same {A} {B} f g (y ∷ ys) h = by (f y) (g y) (h y (inl refl)) (filter_map-same f g ys (λ x k. h x (inr k))) refl refl where
  by : (a b : Option B) → a ≡ b → filter_map f ys ≡ filter_map g ys → f y ≡ a → g y ≡ b → filter_map f (y ∷ ys) ≡ filter_map g (y ∷ ys)
  by None None e k p q = rw p (rw q k)
  by (Some u) (Some v) e k p q = let same : u ≡ v = cc in rw p (rw q (ap (λ z. z ∷ filter_map f ys) same ∙ ap (λ l. v ∷ l) k))
  by None (Some v) e k p q = cc
  by (Some u) None e k p q = cc

-- ---- places and numbers

-- a place in the front
pub get-front : {T : Type 0} (xs ys : List T) (i : ℕ) → i < length xs → slice_get (xs ++ ys) i ≡ slice_get xs i
get-front [] ys i h = absurd (omega arith)
get-front (x ∷ xs) ys zero h = refl
get-front (x ∷ xs) ys (suc i) h = get-front xs ys i (omega arith)

-- a number in the front
pub numbered-front : {T : Type 0} (xs ys : List T) (n : ℕ) → n ≤ length xs → numbered (xs ++ ys) n ≡ numbered xs n
numbered-front xs ys zero h = refl
numbered-front xs ys (suc k) h =
    numbered-at (xs ++ ys) (suc k) k (omega arith) ∙ (get-front xs ys k (omega arith) ∙ sym (numbered-at xs (suc k) k (omega arith)))

-- the front with its numbers, and then the rest with its own
pub enumerate-front : {T : Type 0} (n : ℕ) (xs ys : List T) → enumerate_from n (xs ++ ys) ≡ enumerate_from n xs ++ enumerate_from (n + length xs) ys
enumerate-front n [] ys = ap (λ m. enumerate_from m ys) (omega arith)
enumerate-front n (x ∷ xs) ys =
    ap (λ l. (n, x) ∷ l) (enumerate-front (n + 1) xs ys ∙ ap (λ m. enumerate_from (n + 1) xs ++ enumerate_from m ys) (omega arith))

-- an element stands at the place before its number
pub enumerated-at : {T : Type 0} (n : ℕ) (xs : List T) (x : ℕ × T) → Has (enumerate_from n xs) x
    → (k : ℕ) × (x.0 ≡ n + k) × (slice_get xs k ≡ Some x.1)
enumerated-at n [] x h = absurd h
enumerated-at n (y ∷ ys) x (inl e) = (zero, ap (λ z. z.0) e ∙ omega arith, ap (λ z. Some z.1) (sym e))
enumerated-at n (y ∷ ys) x (inr h) =
    let p : (k : ℕ) × (x.0 ≡ n + 1 + k) × (slice_get ys k ≡ Some x.1) = enumerated-at (n + 1) ys x h in
    (suc p.0, omega (arith, p.1), p.2)

-- so it is found by its number
pub enumerated-found : {T : Type 0} (xs : List T) (x : ℕ × T) → Has (enumerate_from 1 xs) x → numbered xs x.0 ≡ Some x.1
enumerated-found xs x h =
    let p : (k : ℕ) × (x.0 ≡ 1 + k) × (slice_get xs k ≡ Some x.1) = enumerated-at 1 xs x h in
    numbered-at xs x.0 p.0 p.1 ∙ p.2

-- an element has each number up to the length
pub enumerated-number : {T : Type 0} (m : ℕ) (xs : List T) (n : ℕ) → m ≤ n → n < m + length xs → (x : ℕ × T) × Has (enumerate_from m xs) x × (x.0 ≡ n)
enumerated-number m [] n low high = absurd (omega arith)
enumerated-number {T} m (y ∷ ys) n low high = elim (cases_at m n low) [
  | inl e ↦ ((m, y), inl refl, e)
  | inr l ↦
      let p : (x : ℕ × T) × Has (enumerate_from (m + 1) ys) x × (x.0 ≡ n) = enumerated-number (m + 1) ys n (omega (arith, l)) (omega arith) in
      (p.0, inr p.1, p.2)
] where
  cases_at : (m n : ℕ) → m ≤ n → (m ≡ n) ⊎ (m < n)
  cases_at m n low = grind arith

-- lists that agree at the first places begin with the same
pub take-same : {T : Type 0} (k : ℕ) (xs ys : List T) → ((i : ℕ) → i < k → slice_get xs i ≡ slice_get ys i) → take k xs ≡ take k ys
take-same zero xs ys h = refl
take-same (suc k) [] [] h = refl
take-same (suc k) (x ∷ xs) [] h = let e : Some x ≡ None = h zero (omega arith) in cc
take-same (suc k) [] (y ∷ ys) h = let e : None ≡ Some y = h zero (omega arith) in cc
take-same (suc k) (x ∷ xs) (y ∷ ys) h =
    let e : Some x ≡ Some y = h zero (omega arith) in
    let same : x ≡ y = cc in
    ap (λ z. z ∷ take k xs) same ∙ ap (λ l. y ∷ l) (take-same k xs ys (λ i l. h (suc i) (omega (arith, l))))

-- ---- a search among numbered elements

-- what comes before the first that passes does not pass
pub find-first : {T : Type 0} (test : ℕ × T → Bool) (m : ℕ) (xs : List T) (x : ℕ × T) → find test (enumerate_from m xs) ≡ Some x
    → (y : ℕ × T) → Has (enumerate_from m xs) y → y.0 < x.0 → test y ≡ false
find-first test m [] x h y k l = absurd k
find-first {T} test m (z ∷ zs) x h y k l =
    let here : ℕ × T = (m, z) in
    elim (cases_Bool (test here)) [
      | inl hit ↦
          let same : here ≡ x = same_Some here x (sym (cond-true (test here) (Some here) (find test (enumerate_from (m + 1) zs)) hit) ∙ h) in
          let n : m ≡ x.0 = ap (λ w. w.0) same in
          let p : (k : ℕ) × (y.0 ≡ m + k) × (slice_get (z ∷ zs) k ≡ Some y.1) = enumerated-at m (z ∷ zs) y k in
          absurd (omega (arith, p.1, n, l))
      | inr miss ↦
          let later : find test (enumerate_from (m + 1) zs) ≡ Some x = sym (cond-false (test here) (Some here) (find test (enumerate_from (m + 1) zs)) miss) ∙ h in
          elim k [
            | inl e ↦ ap test e ∙ miss
            | inr on ↦ find-first test (m + 1) zs x later y on l
          ]
    ]
