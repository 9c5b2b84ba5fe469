-- Keys in order: entries in order that have the same at each key are the same.
use Rattle.std.proofs.Common.{◌≡◌, ◌∙◌, sym, ap, refl, ℕ, Bool, true, false, ◌||◌, List, [], ◌∷◌, Option, None, Some, cond, map, nat_cmp, ⊎_elim}
use Rattle.std.specs.declared.cmp.Ordering.{Ordering}
use Rattle.std.specs.declared.cmp.Ordering.TheVariants.{Less, Equal, Greater}
use Rattle.std.specs.Cmp.Lexicographic.{slice_cmp}
use Rattle.std.specs.List.{AllByRecursion, list_any}
use Rattle.std.specs.List.Sorted.{IsStrictlySortedBy}
use Rattle.std.specs.Map.{keys_of, lookup}
use Rattle.std.specs.Option.{unwrap_or}
use Rattle.std.specs.Ordering.{eq_by_cmp, is_eq, is_lt, ordering_reverse}
use Rattle.std.specs.BTreeMap.{is_at}
use Rattle.std.specs.Str.{bytes_eq}
use Rattle.std.proofs.lemmas.Bool.{cases_Bool}
use Rattle.std.proofs.lemmas.Cmp.{eq_by_cmp_equiv, nat_list_cmp_total, tied_itself}
use Rattle.std.proofs.lemmas.Map.{lookup-none}
use Rattle.std.proofs.lemmas.Map.Entries.{lookup_head, lookup_tail, none_below_head, none_past_head}
use Rattle.std.proofs.lemmas.Map.Keys.{IsDistinct-from_sorted, sorted_tail}
use Rattle.std.proofs.lemmas.Map.Lookups.{exact_bytes}
use Rattle.std.proofs.lemmas.Map.Text.{is_eq-slice_cmp}
use Rattle.std.proofs.lemmas.Slice.Eq.{bytes_eq-Decides}
use Rattle.conc_base_law.specs.Report.{insert_key, ordered}

abbrev pub compare : List ℕ → List ℕ → Ordering
compare = slice_cmp nat_cmp

-- ---- what is inserted in order stays in order

all-insert : (P : List ℕ → Type 0) (key : List ℕ) (keys : List (List ℕ)) → P key → AllByRecursion P keys → AllByRecursion P (insert_key key keys)
all-insert P key [] here all = (here, tt)
all-insert P key (k ∷ ks) here all =
    elim (bytes_eq key k) as (λ b. AllByRecursion P (cond b (k ∷ ks) (cond (is_lt (compare key k)) (key ∷ k ∷ ks) (k ∷ insert_key key ks)))) [
      | true ↦ all
      | false ↦ elim (is_lt (compare key k)) as (λ b. AllByRecursion P (cond b (key ∷ k ∷ ks) (k ∷ insert_key key ks))) [
        | true ↦ (here, all)
        | false ↦ (all.0, all-insert P key ks here all.1)
      ]
    ]

all-below : (key k : List ℕ) (keys : List (List ℕ)) → compare key k ≡ Less → AllByRecursion (λ y. compare k y ≡ Less) keys → AllByRecursion (λ y. compare key y ≡ Less) keys
all-below key k [] below all = tt
all-below key k (y ∷ ys) below all = (nat_list_cmp_total.trans key k y below all.0, all-below key k ys below all.1)

insert-step : (key k : List ℕ) (ks : List (List ℕ)) (o : Ordering) → compare key k ≡ o → IsStrictlySortedBy compare (k ∷ ks) → IsStrictlySortedBy compare (insert_key key ks) → IsStrictlySortedBy compare (insert_key key (k ∷ ks))
unfolding IsStrictlySortedBy
insert-step key k ks Less e s rest =
    let apart : bytes_eq key k ≡ false = sym (is_eq-slice_cmp key k) ∙ ap is_eq e in
    rw (apart, e) ((e, all-below key k ks e s.0), s)
insert-step key k ks Equal e s rest =
    let same : bytes_eq key k ≡ true = sym (is_eq-slice_cmp key k) ∙ ap is_eq e in
    rw same s
insert-step key k ks Greater e s rest =
    let apart : bytes_eq key k ≡ false = sym (is_eq-slice_cmp key k) ∙ ap is_eq e in
    let above : compare k key ≡ Less = nat_list_cmp_total.antisymm k key ∙ ap ordering_reverse e in
    rw (apart, e) (all-insert (λ y. compare k y ≡ Less) key ks above s.0, rest)

sorted-insert : (key : List ℕ) (keys : List (List ℕ)) → IsStrictlySortedBy compare keys → IsStrictlySortedBy compare (insert_key key keys)
unfolding IsStrictlySortedBy
sorted-insert key [] s = (tt, tt)
sorted-insert key (k ∷ ks) s = insert-step key k ks (compare key k) refl s (sorted-insert key ks s.1)

pub sorted-ordered : (keys : List (List ℕ)) → IsStrictlySortedBy compare (ordered keys)
unfolding IsStrictlySortedBy
sorted-ordered [] = tt
sorted-ordered (key ∷ keys) = sorted-insert key (ordered keys) (sorted-ordered keys)

-- ---- which keys are there

swap : (a b c : Bool) → (a || (b || c)) ≡ (b || (a || c))
swap true true c = refl
swap true false c = refl
swap false true c = refl
swap false false c = refl

twice : (a b : Bool) → (a || (a || b)) ≡ (a || b)
twice true b = refl
twice false b = refl

any-step : (q key k : List ℕ) (ks : List (List ℕ)) (b c : Bool) → bytes_eq key k ≡ b → is_lt (compare key k) ≡ c → list_any (bytes_eq q) (insert_key key ks) ≡ (bytes_eq q key || list_any (bytes_eq q) ks)
    → list_any (bytes_eq q) (insert_key key (k ∷ ks)) ≡ (bytes_eq q key || list_any (bytes_eq q) (k ∷ ks))
any-step q key k ks true c e f rest =
    let same : bytes_eq q key ≡ bytes_eq q k = ap (bytes_eq q) ((bytes_eq-Decides key k).0 e) in
    rw (e, same) (sym (twice (bytes_eq q k) (list_any (bytes_eq q) ks)))
any-step q key k ks false true e f rest = rw (e, f) refl
any-step q key k ks false false e f rest =
    rw (e, f) (ap (λ b. bytes_eq q k || b) rest ∙ swap (bytes_eq q k) (bytes_eq q key) (list_any (bytes_eq q) ks))

any-insert : (q key : List ℕ) (keys : List (List ℕ)) → list_any (bytes_eq q) (insert_key key keys) ≡ (bytes_eq q key || list_any (bytes_eq q) keys)
any-insert q key [] = refl
any-insert q key (k ∷ ks) = any-step q key k ks (bytes_eq key k) (is_lt (compare key k)) refl refl (any-insert q key ks)

pub any-ordered : (q : List ℕ) (keys : List (List ℕ)) → list_any (bytes_eq q) (ordered keys) ≡ list_any (bytes_eq q) keys
any-ordered q [] = refl
any-ordered q (key ∷ keys) = any-insert q key (ordered keys) ∙ ap (λ b. bytes_eq q key || b) (any-ordered q keys)

-- ---- entries in order

module _ {X : Type 0} where
  abbrev pub at_key : List (List ℕ × X) → List ℕ → Option X
  at_key es q = lookup (is_at (compare q)) es

  at_head : (x : List ℕ × X) (xs : List (List ℕ × X)) → at_key (x ∷ xs) x.0 ≡ Some x.1
  at_head x xs = lookup_head (is_at (compare x.0)) x xs (ap is_eq (tied_itself nat_list_cmp_total x.0))

  past_head : (q : List ℕ) (x : List ℕ × X) (xs : List (List ℕ × X)) → IsStrictlySortedBy compare (keys_of (x ∷ xs)) → eq_by_cmp compare q x.0 ≡ true → at_key xs q ≡ None
  past_head q x xs s t = lookup-none (is_at (compare q)) xs (none_past_head (eq_by_cmp_equiv nat_list_cmp_total) q x xs (IsDistinct-from_sorted compare _ s) t)

  some_none : (x : X) → Some x ≡ None → ⊥
  some_none x e = cc

  module _ (x y : List ℕ × X) (xs ys : List (List ℕ × X)) (s : IsStrictlySortedBy compare (keys_of (x ∷ xs))) (t : IsStrictlySortedBy compare (keys_of (y ∷ ys))) (h : (q : List ℕ) → at_key (x ∷ xs) q ≡ at_key (y ∷ ys) q) where
    by_heads : (o : Ordering) → compare x.0 y.0 ≡ o → x.0 ≡ y.0
    by_heads Less e = absurd (some_none x.1 (sym (at_head x xs) ∙ h x.0 ∙ lookup-none _ (y ∷ ys) (none_below_head nat_list_cmp_total x.0 y ys t e)))
    by_heads Equal e = exact_bytes x.0 y.0 e
    by_heads Greater e = absurd (some_none y.1 (sym (at_head y ys) ∙ sym (h y.0) ∙ lookup-none _ (x ∷ xs) (none_below_head nat_list_cmp_total y.0 x xs s (nat_list_cmp_total.antisymm y.0 x.0 ∙ ap ordering_reverse e))))

    heads : x.0 ≡ y.0
    heads = by_heads (compare x.0 y.0) refl

    values : x.1 ≡ y.1
    values =
        let here : eq_by_cmp compare x.0 y.0 ≡ true = rw (sym heads) (ap is_eq (tied_itself nat_list_cmp_total x.0)) in
        ap (λ u. unwrap_or u x.1) (sym (at_head x xs) ∙ h x.0 ∙ lookup_head (is_at (compare x.0)) y ys here)

    tails : (q : List ℕ) → at_key xs q ≡ at_key ys q
    tails q =
        let same : eq_by_cmp compare q y.0 ≡ eq_by_cmp compare q x.0 = ap (eq_by_cmp compare q) (sym heads) in
        ⊎_elim
        (λ b. past_head q x xs s b ∙ sym (past_head q y ys t (same ∙ b)))
        (λ b. sym (lookup_tail (is_at (compare q)) x xs b) ∙ h q ∙ lookup_tail (is_at (compare q)) y ys (same ∙ b))
        (cases_Bool (eq_by_cmp compare q x.0))

  pub same_entries : (es fs : List (List ℕ × X)) → IsStrictlySortedBy compare (keys_of es) → IsStrictlySortedBy compare (keys_of fs) → ((q : List ℕ) → at_key es q ≡ at_key fs q) → es ≡ fs
  same_entries [] [] s t h = refl
  same_entries [] (y ∷ ys) s t h = absurd (some_none y.1 (sym (at_head y ys) ∙ sym (h y.0)))
  same_entries (x ∷ xs) [] s t h = absurd (some_none x.1 (sym (at_head x xs) ∙ h x.0))
  same_entries (x ∷ xs) (y ∷ ys) s t h =
      let rest = same_entries xs ys (sorted_tail compare x.0 (keys_of xs) s) (sorted_tail compare y.0 (keys_of ys) t) (tails x y xs ys s t h) in
      λ i. (heads x y xs ys s t h i, values x y xs ys s t h i) ∷ rest i

  -- a value for each of these keys
  pub at_key-map : (f : List ℕ → X) (keys : List (List ℕ)) (q : List ℕ) → at_key (map (λ key. (key, f key)) keys) q ≡ cond (list_any (bytes_eq q) keys) (Some (f q)) None
  at_key-map f [] q = refl
  at_key-map f (key ∷ keys) q = rw (is_eq-slice_cmp q key) (
      elim (bytes_eq q key) as (λ b. (bytes_eq q key ≡ b) → cond b (Some (f key)) (at_key (map (λ k. (k, f k)) keys) q) ≡ cond (b || list_any (bytes_eq q) keys) (Some (f q)) None) [
        | true ↦ (λ e. ap (λ (k : List ℕ). Some (f k)) (sym ((bytes_eq-Decides q key).0 e)))
        | false ↦ (λ e. at_key-map f keys q)
      ] refl)

  pub keys_of-map : (f : List ℕ → X) (keys : List (List ℕ)) → keys_of (map (λ key. (key, f key)) keys) ≡ keys
  keys_of-map f [] = refl
  keys_of-map f (key ∷ keys) = ap (λ (ks : List (List ℕ)). key ∷ ks) (keys_of-map f keys)
