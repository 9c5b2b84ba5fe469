-- Names that are told apart by a set of those that came before.
use Rattle.std.proofs.Common.{◌≡◌, ◌<◌, ◌∙◌, ◌+◌, ◌++◌, ◌||◌, ◌&&◌, not, ℕ, zero, suc, Bool, true, false, List, [], ◌∷◌, take, length, get_or, Bor, refl, sym}
use Rattle.std.specs.BTreeSet.{insert_key}
use Rattle.std.specs.BTreeMap.{is_at}
use Rattle.std.specs.Cmp.Lexicographic.{slice_cmp}
use Rattle.std.specs.List.{list_any}
use Rattle.std.specs.Ordering.{match_ordering, nat_cmp}
use Rattle.std.specs.Str.{bytes_eq}
use Rattle.std.specs.declared.cmp.Ordering.{Ordering}
use Rattle.std.specs.declared.cmp.Ordering.TheVariants.{Less, Equal, Greater}
use Rattle.std.proofs.lemmas.List.{take_more}
use Rattle.std.proofs.lemmas.Map.Lookups.{exact_bytes}
use Rattle.std.proofs.lemmas.Map.Text.{is_eq-slice_cmp}
use Rattle.std.proofs.lemmas.Slice.Eq.{bytes_eq-Decides}
use Rattle.conc_types.specs.Words.{are_distinct}

-- whether a name is among those in a set
abbrev pub is_key : List ℕ → List (Bor (List ℕ)) → Bool
is_key name keys = list_any (λ k. bytes_eq name k.now) keys

abbrev pub compare : Bor (List ℕ) → Bor (List ℕ) → Ordering
compare x y = slice_cmp nat_cmp x.now y.now

-- the set's own test
pub key-found : (name : Bor (List ℕ)) (keys : List (Bor (List ℕ))) → list_any (is_at (compare name)) keys ≡ is_key name.now keys
key-found name [] = refl
key-found name (k ∷ keys) = rw (is_eq-slice_cmp name.now k.now, key-found name keys) refl

or-last : (a b c : Bool) → (a || (b || c)) ≡ ((b || c) || a)
or-last true true c = refl
or-last true false true = refl
or-last true false false = refl
or-last false true c = refl
or-last false false true = refl
or-last false false false = refl

or-again : (a b : Bool) → (a || b) ≡ ((a || b) || a)
or-again true b = refl
or-again false true = refl
or-again false false = refl

or-assoc : (a b c : Bool) → (a || (b || c)) ≡ ((a || b) || c)
or-assoc true b c = refl
or-assoc false b c = refl

-- what the set knows after one more name
pub key-added : (q : List ℕ) (name : Bor (List ℕ)) (keys : List (Bor (List ℕ))) → is_key q (insert_key compare keys name) ≡ (is_key q keys || bytes_eq q name.now)
key-added q name [] = or-last (bytes_eq q name.now) false false
key-added q name (k ∷ keys) = by (compare name k) refl (key-added q name keys)
  where
    by : (o : Ordering) → compare name k ≡ o → is_key q (insert_key compare keys name) ≡ (is_key q keys || bytes_eq q name.now)
        → is_key q (match_ordering o (name ∷ k ∷ keys) (k ∷ keys) (k ∷ insert_key compare keys name)) ≡ ((bytes_eq q k.now || is_key q keys) || bytes_eq q name.now)
    by Less e more = or-last (bytes_eq q name.now) (bytes_eq q k.now) (is_key q keys)
    by Equal e more = rw (exact_bytes name.now k.now e) (or-again (bytes_eq q k.now) (is_key q keys))
    by Greater e more = rw more (or-assoc (bytes_eq q k.now) (is_key q keys) (bytes_eq q name.now))

same-bool : (a b : Bool) → (a ≡ true → b ≡ true) → (b ≡ true → a ≡ true) → a ≡ b
same-bool true true h g = refl
same-bool true false h g = sym (h refl)
same-bool false true h g = g refl
same-bool false false h g = refl

same-swap : (x y : List ℕ) → bytes_eq x y ≡ bytes_eq y x
same-swap x y =
    let one = bytes_eq-Decides x y in
    let other = bytes_eq-Decides y x in
    same-bool (bytes_eq x y) (bytes_eq y x) (λ e. other.1 (sym (one.0 e))) (λ e. one.1 (sym (other.0 e)))

any-last : (p : List ℕ → Bool) (xs : List (List ℕ)) (x : List ℕ) → list_any p (xs ++ (x ∷ [])) ≡ (list_any p xs || p x)
any-last p [] x = or-last (p x) false false
any-last p (y ∷ ys) x = rw (any-last p ys x) (or-assoc (p y) (list_any p ys) (p x))

split : (a b d e : Bool) → (not (a || b) && (d && not e)) ≡ ((not a && d) && not (b || e))
split true b d e = refl
split false true true e = refl
split false true false e = refl
split false false d e = refl

-- one more name is distinct from those before if it is not among them
pub distinct-last : (xs : List (List ℕ)) (x : List ℕ) → are_distinct bytes_eq (xs ++ (x ∷ [])) ≡ (are_distinct bytes_eq xs && not (list_any (bytes_eq x) xs))
distinct-last [] x = refl
distinct-last (y ∷ ys) x =
    rw (any-last (bytes_eq y) ys x, distinct-last ys x, same-swap x y) (split (list_any (bytes_eq y) ys) (bytes_eq y x) (are_distinct bytes_eq ys) (list_any (bytes_eq x) ys))

or-more : (a b c : Bool) → (b ≡ true → c ≡ true) → (a || b) ≡ true → (a || c) ≡ true
or-more true b c h e = refl
or-more false b c h e = h e

any-taken : (p : List ℕ → Bool) (n : ℕ) (xs : List (List ℕ)) → list_any p (take n xs) ≡ true → list_any p xs ≡ true
any-taken p zero [] e = e
any-taken p zero (x ∷ xs) e = cc e
any-taken p (suc n) [] e = e
any-taken p (suc n) (x ∷ xs) e = or-more (p x) (list_any p (take n xs)) (list_any p xs) (any-taken p n xs) e

either-less : (a b d f : Bool) → (a ≡ true → b ≡ true) → (d ≡ false → f ≡ false) → (not a && d) ≡ false → (not b && f) ≡ false
either-less true b d f h g e = rw (h refl) refl
either-less false true d f h g e = refl
either-less false false d f h g e = g e

-- names of which the first are not distinct are not distinct
pub distinct-taken : (n : ℕ) (xs : List (List ℕ)) → are_distinct bytes_eq (take n xs) ≡ false → are_distinct bytes_eq xs ≡ false
distinct-taken zero [] e = e
distinct-taken zero (x ∷ xs) e = cc e
distinct-taken (suc n) [] e = e
distinct-taken (suc n) (x ∷ xs) e =
    either-less (list_any (bytes_eq x) (take n xs)) (list_any (bytes_eq x) xs) (are_distinct bytes_eq (take n xs)) (are_distinct bytes_eq xs) (any-taken (bytes_eq x) n xs) (distinct-taken n xs) e

-- a set of the names before a place knows them all
abbrev pub Knows : List (Bor (List ℕ)) → List (List ℕ) → Type 0
Knows keys names = (q : List ℕ) → is_key q keys ≡ list_any (bytes_eq q) names

-- a name that is not new to the set
pub found-again : (names : List (List ℕ)) (keys : List (Bor (List ℕ))) (name : Bor (List ℕ)) (n : ℕ) (d : List ℕ) → n < length names → name.now ≡ get_or names n d → Knows keys (take n names)
    → false ≡ not (list_any (is_at (compare name)) keys) → false ≡ are_distinct bytes_eq names
found-again names keys name n d within at knows old =
    let known : list_any (bytes_eq name.now) (take n names) ≡ true = sym (knows name.now) ∙ sym (key-found name keys) ∙ was _ old in
    sym (distinct-taken (n + 1) names (rw (take_more names n d within, ← at) (distinct-last (take n names) name.now ∙ rw known (no-more _))))
  where
    was : (b : Bool) → false ≡ not b → b ≡ true
    was true e = refl
    was false e = cc e

    no-more : (b : Bool) → (b && false) ≡ false
    no-more true = refl
    no-more false = refl

-- a name that is new to the set
pub found-new : (names : List (List ℕ)) (keys more : List (Bor (List ℕ))) (name : Bor (List ℕ)) (n : ℕ) (d : List ℕ) → n < length names → name.now ≡ get_or names n d
    → are_distinct bytes_eq (take n names) ≡ true → Knows keys (take n names)
    → true ≡ not (list_any (is_at (compare name)) keys) → more ≡ insert_key compare keys name
    → (are_distinct bytes_eq (take (n + 1) names) ≡ true) × Knows more (take (n + 1) names)
found-new names keys more name n d within at before knows fresh added =
    let known : list_any (bytes_eq name.now) (take n names) ≡ false = sym (knows name.now) ∙ sym (key-found name keys) ∙ was _ fresh in
    rw (take_more names n d within, ← at, added) (
      distinct-last (take n names) name.now ∙ rw (before, known) refl,
      λ q. key-added q name keys ∙ rw (knows q) (sym (any-last (bytes_eq q) (take n names) name.now)),
    )
  where
    was : (b : Bool) → true ≡ not b → b ≡ false
    was true e = cc e
    was false e = refl
