-- What stands of the values that each item of a list is made into.
use Rattle.std.proofs.Common.{◌≡◌, ◌∙◌, sym, refl, ap, ℕ, ◌+◌, ◌<◌, ◌≤◌, Bool, List, [], ◌∷◌, ◌++◌, get_or, length, map, take, Result, Ok, arith}
use Rattle.std.specs.Prelude.{IsTrue}
use Rattle.std.specs.List.{enumerate_from, list_all, sum_by}
use Rattle.std.proofs.lemmas.Bool.{and_from}
use Rattle.std.proofs.lemmas.List.{map-append, take_all, take_more}
use Rattle.std.proofs.lemmas.List.FromFn.{get_or-enumerate_from, length-enumerate_from}
use Rattle.std.proofs.lemmas.List.Sums.{sum_by-cons}
use Rattle.conc_types.specs.declared.kind.RefusalKind.{RefusalKind}

module _ {A B : Type 0} (f : A → Result B RefusalKind) where
  -- a test that each passes
  pub each_passes : (test : B → Bool) → ((x : A) (y : B) → f x ≡ Ok y → IsTrue (test y)) → (xs : List A) (ys : List B) → map f xs ≡ map Ok ys → IsTrue (list_all test ys)
  each_passes test passes [] [] e = refl
  each_passes test passes [] (y ∷ ys) e = absurd (cc)
  each_passes test passes (x ∷ xs) [] e = absurd (cc)
  each_passes test passes (x ∷ xs) (y ∷ ys) e = and_from _ _ (passes x y (cc)) (each_passes test passes xs ys (cc))

  -- a feature that each has of what it is made from
  pub each_same : {C : Type 0} (g : B → C) (h : A → C) → ((x : A) (y : B) → f x ≡ Ok y → g y ≡ h x) → (xs : List A) (ys : List B) → map f xs ≡ map Ok ys → map g ys ≡ map h xs
  each_same g h same [] [] e = refl
  each_same g h same [] (y ∷ ys) e = absurd (cc)
  each_same g h same (x ∷ xs) [] e = absurd (cc)
  each_same g h same (x ∷ xs) (y ∷ ys) e =
      let head : g y ≡ h x = same x y (cc) in
      let tail : map g ys ≡ map h xs = each_same g h same xs ys (cc) in
      cc

  pub each_sum : (g : B → ℕ) (h : A → ℕ) → ((x : A) (y : B) → f x ≡ Ok y → g y ≡ h x) → (xs : List A) (ys : List B) → map f xs ≡ map Ok ys → sum_by g ys ≡ sum_by h xs
  each_sum g h same [] [] e = refl
  each_sum g h same [] (y ∷ ys) e = absurd (cc)
  each_sum g h same (x ∷ xs) [] e = absurd (cc)
  each_sum g h same (x ∷ xs) (y ∷ ys) e =
      let head : g y ≡ h x = same x y (cc) in
      let tail : sum_by g ys ≡ sum_by h xs = each_sum g h same xs ys (cc) in
      let left = sum_by-cons g y ys in
      let right = sum_by-cons h x xs in
      cc

  -- there are as many
  pub each_count : (xs : List A) (ys : List B) → map f xs ≡ map Ok ys → length ys ≡ length xs
  each_count [] [] e = refl
  each_count [] (y ∷ ys) e = absurd (cc)
  each_count (x ∷ xs) [] e = absurd (cc)
  each_count (x ∷ xs) (y ∷ ys) e = let later : length ys ≡ length xs = each_count xs ys (cc) in omega arith

module _ {A B : Type 0} (f : ℕ × A → Result B RefusalKind) where
  -- a test that each passes with its place
  pub each_passes_at : (test : ℕ × B → Bool) → ((at : ℕ) (x : A) (y : B) → f (at, x) ≡ Ok y → IsTrue (test (at, y)))
      → (n : ℕ) (xs : List A) (ys : List B) → map f (enumerate_from n xs) ≡ map Ok ys → IsTrue (list_all test (enumerate_from n ys))
  each_passes_at test passes n [] [] e = refl
  each_passes_at test passes n [] (y ∷ ys) e = absurd (cc)
  each_passes_at test passes n (x ∷ xs) [] e = absurd (cc)
  each_passes_at test passes n (x ∷ xs) (y ∷ ys) e = and_from _ _ (passes n x y (cc)) (each_passes_at test passes (n + 1) xs ys (cc))

  pub each_same_at : {C : Type 0} (g : B → C) (h : A → C) → ((at : ℕ) (x : A) (y : B) → f (at, x) ≡ Ok y → g y ≡ h x)
      → (n : ℕ) (xs : List A) (ys : List B) → map f (enumerate_from n xs) ≡ map Ok ys → map g ys ≡ map h xs
  each_same_at g h same n [] [] e = refl
  each_same_at g h same n [] (y ∷ ys) e = absurd (cc)
  each_same_at g h same n (x ∷ xs) [] e = absurd (cc)
  each_same_at g h same n (x ∷ xs) (y ∷ ys) e =
      let head : g y ≡ h x = same n x y (cc) in
      let tail : map g ys ≡ map h xs = each_same_at g h same (n + 1) xs ys (cc) in
      cc

-- ---- lists that grow

pub enumerated_more : {A B : Type 0} (f : ℕ × A → B) (xs : List A) (i : ℕ) (x : A) → i < length xs → x ≡ get_or xs i x
    → map f (take (i + 1) (enumerate_from 0 xs)) ≡ map f (take i (enumerate_from 0 xs)) ++ f (i, x) ∷ []
enumerated_more {A = A} f xs i x below at =
    let zero : 0 + i ≡ i = omega arith in
    let there : i < length (enumerate_from 0 xs) = rw length-enumerate_from below in
    let same : get_or (enumerate_from 0 xs) i (0, x) ≡ (i, x) =
    get_or-enumerate_from 0 xs i (0, x) below ∙ (ap (λ (n : ℕ). (n, get_or xs i x)) zero ∙ ap (λ (y : A). (i, y)) (sym at)) in
    rw (take_more (enumerate_from 0 xs) i (0, x) there, map-append, same) refl

pub enumerated_all : {A B : Type 0} (f : ℕ × A → B) (xs : List A) (i : ℕ) → length xs ≤ i → map f (take i (enumerate_from 0 xs)) ≡ map f (enumerate_from 0 xs)
enumerated_all f xs i above =
    let all : length (enumerate_from 0 xs) ≤ i = rw length-enumerate_from above in
    ap (map f) (take_all i (enumerate_from 0 xs) all)
