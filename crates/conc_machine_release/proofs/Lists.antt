-- Lists, element by element.
use Rattle.std.proofs.Common.{◌≡◌, ℕ, zero, suc, ◌+◌, ◌<◌, ◌≤◌, Bool, true, false, not, ◌&&◌, ◌||◌, ◌==◌, cond, List, [], ◌∷◌, ◌++◌, length, get_or, map, set, take, drop, add-one, Option, None, Some, refl, sym, ◌∙◌, ap, inl, inr, arith}
use Rattle.std.specs.Prelude.{slice_get}
use Rattle.std.specs.List.{filter, list_any, range_with_len}
use Rattle.std.proofs.lemmas.Bool.{cases_eq, ne_eqb, or_left}
use Rattle.std.proofs.lemmas.List.{length-take}
use Rattle.std.proofs.lemmas.List.Elements.{filter-append}
use Rattle.std.proofs.lemmas.List.Filters.{length-filter_more}
use Rattle.conc_base_law.specs.Words.{Has}

-- ---- elements and places

-- two lists with the same elements at each place are the same
pub same_list : {T : Type 0} (xs ys : List T) → ((k : ℕ) → slice_get xs k ≡ slice_get ys k) → xs ≡ ys
same_list [] [] h = refl
same_list {T} [] (y ∷ ys) h = let e : ◌≡◌ {A = Option T} None (Some y) = h 0 in cc
same_list {T} (x ∷ xs) [] h = let e : ◌≡◌ {A = Option T} (Some x) None = h 0 in cc
same_list {T} (x ∷ xs) (y ∷ ys) h =
    let e : ◌≡◌ {A = Option T} (Some x) (Some y) = h 0 in
    let here : x ≡ y = cc in
    let later : xs ≡ ys = same_list xs ys (λ k. h (suc k)) in
    cc

-- what stands at a place is an element
pub place-has : {T : Type 0} (xs : List T) (k : ℕ) (x : T) → slice_get xs k ≡ Some x → Has xs x
place-has [] k x h = cc
place-has (y ∷ ys) zero x h = let e : y ≡ x = cc in inl (sym e)
place-has (y ∷ ys) (suc k) x h = inr (place-has ys k x h)

-- an element stands at a place
pub has-place : {T : Type 0} (xs : List T) (x : T) → Has xs x → (k : ℕ) × (slice_get xs k ≡ Some x)
has-place [] x h = absurd h
has-place (y ∷ ys) x h = elim h [
  | inl e ↦ (0, ap (λ z. Some z) (sym e))
  | inr later ↦ let r : (k : ℕ) × (slice_get ys k ≡ Some x) = has-place ys x later in (suc r.0, r.1)
]

-- an element stands at each place of a list
pub place-some : {T : Type 0} (xs : List T) (k : ℕ) → k < length xs → (x : T) × (slice_get xs k ≡ Some x)
place-some [] k h = absurd (omega arith)
place-some (x ∷ xs) zero h = (x, refl)
place-some (x ∷ xs) (suc k) h = place-some xs k (omega arith)

-- what stands from a place on
drop-step : {T : Type 0} (xs : List T) (k : ℕ) (x : T) → slice_get xs k ≡ Some x → drop k xs ≡ x ∷ drop (suc k) xs
drop-step [] k x h = cc
drop-step (y ∷ ys) zero x h = let e : y ≡ x = cc in ap (λ z. z ∷ ys) e
drop-step (y ∷ ys) (suc k) x h = drop-step ys k x h

pub drop-next : {T : Type 0} (xs : List T) (k : ℕ) (x : T) → slice_get xs k ≡ Some x → drop k xs ≡ x ∷ drop (k + 1) xs
drop-next xs k x h = rw (add-one k) (drop-step xs k x h)

pub take-none : {T : Type 0} (xs : List T) → take 0 xs ≡ []
take-none [] = refl
take-none (x ∷ xs) = refl

-- ---- numbers

-- the number at a place of a range
pub range-get : (a n k x : ℕ) → slice_get (range_with_len a n) k ≡ Some x → (x ≡ a + k) × (k < n)
range-get a zero k x h = cc
range-get a (suc n) zero x h = let e : a ≡ x = cc in (omega arith, omega arith)
range-get a (suc n) (suc k) x h = let r : (x ≡ a + 1 + k) × (k < n) = range-get (a + 1) n k x h in (omega (arith, r.0), omega (arith, r.1))

-- a number is one of a range
pub range-has : (a n c : ℕ) → a ≤ c → c < a + n → Has (range_with_len a n) c
range-has a zero c more less = absurd (omega arith)
range-has a (suc n) c more less = elim (cases_eq c a) [
  | inl e ↦ inl e
  | inr ne ↦ inr (range-has (a + 1) n c (omega (arith, more, ne)) (omega (arith, less)))
]

pub range-below : (a n c : ℕ) → Has (range_with_len a n) c → c < a + n
range-below a zero c h = absurd h
range-below a (suc n) c h = elim h [
  | inl e ↦ omega (arith, e)
  | inr later ↦ omega (arith, range-below (a + 1) n c later)
]

range-step : (n a j : ℕ) → a + n ≡ j → range_with_len a (suc n) ≡ range_with_len a n ++ j ∷ []
range-step zero a j e = let same : a ≡ j = omega arith in ap (λ k. k ∷ []) same
range-step (suc n) a j e = ap (λ l. a ∷ l) (range-step n (a + 1) j (omega arith))

range-more : (n : ℕ) → range_with_len 0 (n + 1) ≡ range_with_len 0 n ++ n ∷ []
range-more n = rw (add-one n) (range-step n 0 n (omega arith))

-- one number more, where it passes and where it does not
pub filter-range_one : (p : ℕ → Bool) (n : ℕ) → p n ≡ true → filter p (range_with_len 0 (n + 1)) ≡ filter p (range_with_len 0 n) ++ n ∷ []
filter-range_one p n h =
    ap (filter p) (range-more n) ∙ filter-append p (range_with_len 0 n) (n ∷ []) ∙ ap (λ b. filter p (range_with_len 0 n) ++ cond b (n ∷ []) []) h

pub filter-range_none : (p : ℕ → Bool) (n : ℕ) → p n ≡ false → filter p (range_with_len 0 (n + 1)) ≡ filter p (range_with_len 0 n)
filter-range_none p n h =
    ap (filter p) (range-more n) ∙ filter-append p (range_with_len 0 n) (n ∷ []) ∙ ap (λ b. filter p (range_with_len 0 n) ++ cond b (n ∷ []) []) h
    ∙ none (filter p (range_with_len 0 n)) where
      none : (xs : List ℕ) → xs ++ [] ≡ xs
      none [] = refl
      none (x ∷ xs) = ap (λ l. x ∷ l) (none xs)

-- what is made of a number of a range stands at its place
pub map_range-get : {T : Type 0} (f : ℕ → T) (a n c m : ℕ) → m ≡ a + c → c < n → slice_get (map f (range_with_len a n)) c ≡ Some (f m)
map_range-get f a zero c m e h = absurd (omega arith)
map_range-get f a (suc n) zero m e h = let same : a ≡ m = omega arith in ap (λ k. Some (f k)) same
map_range-get f a (suc n) (suc c) m e h = map_range-get f (a + 1) n c m (omega arith) (omega arith)

-- two functions that agree on the numbers
pub map_range-same : {T : Type 0} (f g : ℕ → T) (a n : ℕ) → ((d : ℕ) → a ≤ d → f d ≡ g d) → map f (range_with_len a n) ≡ map g (range_with_len a n)
map_range-same f g a zero h = refl
map_range-same f g a (suc n) h =
    let here : f a ≡ g a = h a (omega arith) in
    let later : map f (range_with_len (a + 1) n) ≡ map g (range_with_len (a + 1) n) = map_range-same f g (a + 1) n (λ d (le : a + 1 ≤ d). h d (omega arith)) in
    cc

-- two functions that agree on the numbers of a range
pub map_range-within : {T : Type 0} (f g : ℕ → T) (a n : ℕ) → ((d : ℕ) → a ≤ d → d < a + n → f d ≡ g d) → map f (range_with_len a n) ≡ map g (range_with_len a n)
map_range-within f g a zero h = refl
map_range-within f g a (suc n) h =
    let here : f a ≡ g a = h a (omega arith) (omega arith) in
    let later : map f (range_with_len (a + 1) n) ≡ map g (range_with_len (a + 1) n) =
    map_range-within f g (a + 1) n (λ d (le : a + 1 ≤ d) (lt : d < a + 1 + n). h d (omega arith) (omega arith)) in
    cc

-- two functions that agree but on one number
map_range-set_from : {T : Type 0} (f g : ℕ → T) (n a c m : ℕ) (v : T) → m ≡ a + c → g m ≡ v → ((d : ℕ) → (d ≡ m → ⊥) → g d ≡ f d)
    → set (map f (range_with_len a n)) c v ≡ map g (range_with_len a n)
map_range-set_from f g zero a c m v e own other = refl
map_range-set_from f g (suc n) a zero m v e own other =
    let same : a ≡ m = omega arith in
    let here : g a ≡ v = ap g same ∙ own in
    let later : map f (range_with_len (a + 1) n) ≡ map g (range_with_len (a + 1) n) =
    map_range-same f g (a + 1) n (λ d (le : a + 1 ≤ d). sym (other d (λ (at : d ≡ m). omega arith))) in
    cc
map_range-set_from f g (suc n) a (suc c) m v e own other =
    let here : g a ≡ f a = other a (λ (at : a ≡ m). omega arith) in
    let later : set (map f (range_with_len (a + 1) n)) c v ≡ map g (range_with_len (a + 1) n) = map_range-set_from f g n (a + 1) c m v (omega arith) own other in
    cc

pub map_range-set : {T : Type 0} (f g : ℕ → T) (n c : ℕ) (v : T) → g c ≡ v → ((d : ℕ) → (d ≡ c → ⊥) → g d ≡ f d)
    → set (map f (range_with_len 0 n)) c v ≡ map g (range_with_len 0 n)
map_range-set f g n c v own other = map_range-set_from f g n 0 c c v (omega arith) own other

-- ---- filters

-- an element of a filter is one of the list that passes
pub filter-has : {T : Type 0} (p : T → Bool) (xs : List T) (y : T) → Has (filter p xs) y → Has xs y × (p y ≡ true)
filter-has p [] y h = absurd h
filter-has {T} p (x ∷ xs) y h = by (p x) refl (filter-has p xs y) h where
  by : (b : Bool) → p x ≡ b → (Has (filter p xs) y → Has xs y × (p y ≡ true)) → Has (cond b (x ∷ filter p xs) (filter p xs)) y
      → Has (x ∷ xs) y × (p y ≡ true)
  by true e rest h = elim h [
    | inl same ↦ (inl same, ap p same ∙ e)
    | inr later ↦ let r : Has xs y × (p y ≡ true) = rest later in (inr r.0, r.1)
  ]
  by false e rest h = let r : Has xs y × (p y ≡ true) = rest h in (inr r.0, r.1)

-- an element that passes is one of the filter
pub has-filter : {T : Type 0} (p : T → Bool) (xs : List T) (y : T) → Has xs y → p y ≡ true → Has (filter p xs) y
has-filter p [] y h e = absurd h
has-filter {T} p (x ∷ xs) y h e = elim h [
  | inl same ↦ here (p x) same (ap p (sym same) ∙ e)
  | inr later ↦ there (p x) (has-filter p xs y later e)
] where
  here : (b : Bool) → y ≡ x → b ≡ true → Has (cond b (x ∷ filter p xs) (filter p xs)) y
  here true same t = inl same
  here false same t = cc

  there : (b : Bool) → Has (filter p xs) y → Has (cond b (x ∷ filter p xs) (filter p xs)) y
  there true has = inr has
  there false has = has

-- where an element passes, some does
pub any-has : {T : Type 0} (p : T → Bool) (xs : List T) (y : T) → Has xs y → p y ≡ true → list_any p xs ≡ true
any-has p [] y h e = absurd h
any-has p (x ∷ xs) y h e = elim h [
  | inl same ↦ or_left (p x) (list_any p xs) (ap p (sym same) ∙ e)
  | inr later ↦ ap (λ b. p x || b) (any-has p xs y later e) ∙ or_right (p x)
] where
  or_right : (b : Bool) → (b || true) ≡ true
  or_right true = refl
  or_right false = refl

-- one more element, where it passes
pub length-filter_cons : {T : Type 0} (p : T → Bool) (x : T) (xs : List T) → length (filter p (x ∷ xs)) ≡ cond (p x) 1 0 + length (filter p xs)
length-filter_cons {T} p x xs = by (p x) where
  by : (b : Bool) → length (cond b (x ∷ filter p xs) (filter p xs)) ≡ cond b 1 0 + length (filter p xs)
  by true = omega arith
  by false = omega arith

-- a filter keeps no more than there are
pub length-filter_most : {T : Type 0} (p : T → Bool) (xs : List T) → length (filter p xs) ≤ length xs
length-filter_most p [] = omega arith
length-filter_most {T} p (x ∷ xs) = by (p x) (length-filter_most p xs) where
  by : (b : Bool) → length (filter p xs) ≤ length xs → length (cond b (x ∷ filter p xs) (filter p xs)) ≤ suc (length xs)
  by true h = omega arith
  by false h = omega arith

-- two tests that agree on the elements
pub length-filter_same : {T : Type 0} (p q : T → Bool) (xs : List T) → ((y : T) → Has xs y → q y ≡ p y) → length (filter q xs) ≡ length (filter p xs)
length-filter_same p q [] h = refl
length-filter_same p q (x ∷ xs) h =
    length-filter_cons q x xs
    ∙ ap (λ b. cond b 1 0 + length (filter q xs)) (h x (inl refl))
    ∙ ap (λ n. cond (p x) 1 0 + n) (length-filter_same p q xs (λ y has. h y (inr has)))
    ∙ sym (length-filter_cons p x xs)

sums : (a b c d n m : ℕ) → n ≡ m → (a + n) + b ≡ (b + m) + a
sums a b c d n m e = omega arith

-- two tests that agree but at one place
pub length-filter_change : {T : Type 0} (p q : T → Bool) (xs : List T) (i : ℕ) (x : T) → slice_get xs i ≡ Some x
    → ((k : ℕ) (y : T) → slice_get xs k ≡ Some y → (k ≡ i → ⊥) → q y ≡ p y)
    → length (filter q xs) + cond (p x) 1 0 ≡ length (filter p xs) + cond (q x) 1 0
length-filter_change p q [] i x h other = cc
length-filter_change {T} p q (z ∷ zs) zero x h other =
    let e : z ≡ x = cc in
    let later : length (filter q zs) ≡ length (filter p zs) =
    length-filter_same p q zs (λ y has. let at : (k : ℕ) × (slice_get zs k ≡ Some y) = has-place zs y has in other (suc at.0) y at.1 (λ (n : suc at.0 ≡ 0). omega arith)) in
    ap (λ n. n + cond (p x) 1 0) (length-filter_cons q z zs)
    ∙ ap (λ w. cond (q w) 1 0 + length (filter q zs) + cond (p x) 1 0) e
    ∙ sums (cond (q x) 1 0) (cond (p x) 1 0) 0 0 (length (filter q zs)) (length (filter p zs)) later
    ∙ ap (λ w. cond (p w) 1 0 + length (filter p zs) + cond (q x) 1 0) (sym e)
    ∙ ap (λ n. n + cond (q x) 1 0) (sym (length-filter_cons p z zs))
length-filter_change {T} p q (z ∷ zs) (suc i) x h other =
    let later : length (filter q zs) + cond (p x) 1 0 ≡ length (filter p zs) + cond (q x) 1 0 =
    length-filter_change p q zs i x h (λ k y at ne. other (suc k) y at (λ (n : suc k ≡ suc i). ne (omega arith))) in
    ap (λ n. n + cond (p x) 1 0) (length-filter_cons q z zs)
    ∙ ap (λ b. cond b 1 0 + length (filter q zs) + cond (p x) 1 0) (other 0 z refl (λ (n : 0 ≡ suc i). omega arith))
    ∙ assoc (cond (p z) 1 0) (length (filter q zs)) (cond (p x) 1 0) (length (filter p zs)) (cond (q x) 1 0) later
    ∙ ap (λ n. n + cond (q x) 1 0) (sym (length-filter_cons p z zs)) where
      assoc : (a n b m c : ℕ) → n + b ≡ m + c → a + n + b ≡ a + m + c
      assoc a n b m c e = omega arith

-- those that pass one test are those that pass a second one, and those that do not
pub length-filter_parts : {T : Type 0} (a b : T → Bool) (xs : List T)
    → length (filter a xs) ≡ length (filter (λ x. a x && b x) xs) + length (filter (λ x. a x && not (b x)) xs)
length-filter_parts a b [] = omega arith
length-filter_parts {T} a b (x ∷ xs) =
    length-filter_cons a x xs
    ∙ by (a x) (b x) _ _ _ (length-filter_parts a b xs)
    ∙ ap (λ n. n + (cond (a x && not (b x)) 1 0 + length (filter (λ x. a x && not (b x)) xs))) (sym (length-filter_cons (λ x. a x && b x) x xs))
    ∙ ap (λ n. length (filter (λ x. a x && b x) (x ∷ xs)) + n) (sym (length-filter_cons (λ x. a x && not (b x)) x xs)) where
      by : (p q : Bool) (n m l : ℕ) → n ≡ m + l → cond p 1 0 + n ≡ cond (p && q) 1 0 + m + (cond (p && not q) 1 0 + l)
      by true true n m l e = omega arith
      by true false n m l e = omega arith
      by false q n m l e = omega arith

none-more : (n : ℕ) → cond false 1 0 + n ≡ n
none-more n = omega arith

-- where none passes a filter keeps none
pub length-filter_none : {T : Type 0} (p : T → Bool) (xs : List T) → ((y : T) → Has xs y → p y ≡ false) → length (filter p xs) ≡ 0
length-filter_none p [] h = refl
length-filter_none p (x ∷ xs) h =
    length-filter_cons p x xs ∙ ap (λ b. cond b 1 0 + length (filter p xs)) (h x (inl refl)) ∙ none-more (length (filter p xs)) ∙ length-filter_none p xs (λ y has. h y (inr has))

-- some element passes unless a filter keeps none
pub any-filter : {T : Type 0} (p : T → Bool) (xs : List T) → list_any p xs ≡ not (length (filter p xs) == 0)
any-filter p [] = refl
any-filter {T} p (x ∷ xs) = by (p x) (any-filter p xs) where
  by : (b : Bool) → list_any p xs ≡ not (length (filter p xs) == 0)
      → (b || list_any p xs) ≡ not (length (cond b (x ∷ filter p xs) (filter p xs)) == 0)
  by true h = sym (ap not (ne_eqb (length (x ∷ filter p xs)) 0 (λ (e : length (x ∷ filter p xs) ≡ 0). omega arith)))
  by false h = h

-- ---- the front of a list

-- where none of the front passes
pub front-none : {T : Type 0} (p : T → Bool) (xs : List T) (i : ℕ) → ((k : ℕ) (y : T) → slice_get xs k ≡ Some y → k < i → p y ≡ false)
    → length (filter p (take i xs)) ≡ 0
front-none p [] zero h = refl
front-none p [] (suc i) h = refl
front-none p (x ∷ xs) zero h = refl
front-none p (x ∷ xs) (suc i) h =
    length-filter_cons p x (take i xs)
    ∙ ap (λ b. cond b 1 0 + length (filter p (take i xs))) (h 0 x refl (omega arith))
    ∙ none-more (length (filter p (take i xs)))
    ∙ front-none p xs i (λ k y at (le : k < i). h (suc k) y at (omega arith))

-- where none behind the front passes
pub front-all : {T : Type 0} (p : T → Bool) (xs : List T) (i : ℕ) → ((k : ℕ) (y : T) → slice_get xs k ≡ Some y → i ≤ k → p y ≡ false)
    → length (filter p (take i xs)) ≡ length (filter p xs)
front-all p [] zero h = refl
front-all p [] (suc i) h = refl
front-all p (x ∷ xs) zero h =
    sym (length-filter_none p (x ∷ xs) (λ y has. let at : (k : ℕ) × (slice_get (x ∷ xs) k ≡ Some y) = has-place (x ∷ xs) y has in h at.0 y at.1 (omega arith)))
front-all p (x ∷ xs) (suc i) h =
    length-filter_cons p x (take i xs)
    ∙ ap (λ n. cond (p x) 1 0 + n) (front-all p xs i (λ k y at (le : i ≤ k). h (suc k) y at (omega arith)))
    ∙ sym (length-filter_cons p x xs)

-- one more of the front
pub front-next : {T : Type 0} (p : T → Bool) (xs : List T) (i : ℕ) (x : T) (n m : ℕ) → i < length xs → x ≡ get_or xs i x
    → n ≡ length (filter p (take i xs)) → m ≡ n + cond (p x) 1 0 → (m ≡ length (filter p (take (i + 1) xs))) × (m ≤ length xs)
front-next {T} p xs i x n m h e was now =
    let more : length (filter p (take (i + 1) xs)) ≡ length (filter p (take i xs)) + cond (p (get_or xs i x)) 1 0 = length-filter_more p xs i x h in
    let same : cond {A = ℕ} (p (get_or xs i x)) 1 0 ≡ cond {A = ℕ} (p x) 1 0 = ap (λ (y : T). cond {A = ℕ} (p y) 1 0) (sym e) in
    let all : m ≡ length (filter p (take (i + 1) xs)) = omega arith in
    let most : length (filter p (take (i + 1) xs)) ≤ length (take (i + 1) xs) = length-filter_most p (take (i + 1) xs) in
    let front : length (take (i + 1) xs) ≤ length xs = omega (arith, length-take (i + 1) xs) in
    (all, omega arith)

-- ---- distinct elements

-- no element stands at two places
pub record IsDistinct {T : Type 0} (xs : List T) : Type 0 where
  pub one : (i j : ℕ) (x : T) → slice_get xs i ≡ Some x → slice_get xs j ≡ Some x → i ≡ j

distinct-rest : {T : Type 0} (x : T) (xs : List T) → IsDistinct (x ∷ xs) → IsDistinct xs
distinct-rest x xs d = record { one = λ i j y h k. let e : suc i ≡ suc j = d.one (suc i) (suc j) y h k in omega arith }

pub filter-distinct : {T : Type 0} (p : T → Bool) (xs : List T) → IsDistinct xs → IsDistinct (filter p xs)
filter-distinct p [] d = d
filter-distinct {T} p (x ∷ xs) d = by (p x) (filter-distinct p xs (distinct-rest x xs d)) where
  twice : (j : ℕ) (y : T) → x ≡ y → slice_get (filter p xs) j ≡ Some y → ⊥
  twice j y e k =
      let inside : Has xs y × (p y ≡ true) = filter-has p xs y (place-has (filter p xs) j y k) in
      let at : (m : ℕ) × (slice_get xs m ≡ Some y) = has-place xs y inside.0 in
      let same : 0 ≡ suc at.0 = d.one 0 (suc at.0) y (ap (λ z. Some z) e) at.1 in
      omega arith

  at : IsDistinct (filter p xs) → (i j : ℕ) (y : T) → slice_get (x ∷ filter p xs) i ≡ Some y → slice_get (x ∷ filter p xs) j ≡ Some y → i ≡ j
  at rest zero zero y h k = refl
  at rest zero (suc j) y h k = let e : x ≡ y = cc in absurd (twice j y e k)
  at rest (suc i) zero y h k = let e : x ≡ y = cc in absurd (twice i y e h)
  at rest (suc i) (suc j) y h k = ap (λ n. suc n) (rest.one i j y h k)

  by : (b : Bool) → IsDistinct (filter p xs) → IsDistinct (cond b (x ∷ filter p xs) (filter p xs))
  by false rest = rest
  by true rest = record { one = at rest }
