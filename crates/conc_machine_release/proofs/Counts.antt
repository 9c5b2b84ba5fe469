-- The counts of live rivals after a write.
use Rattle.std.proofs.Common.{◌≡◌, ℕ, zero, suc, ◌+◌, ◌<◌, ◌≤◌, Bool, true, false, not, ◌&&◌, ◌||◌, ◌==◌, cond, nat_lt, List, [], ◌∷◌, length, get_or, map, set, Option, None, Some, refl, sym, ◌∙◌, ap, inl, inr, arith}
use Rattle.std.specs.Prelude.{slice_get}
use Rattle.std.specs.List.{list_all, list_any}
use Rattle.std.specs.Option.{option_map}
use Rattle.std.proofs.lemmas.Bool.{and_parts, cases_eq, eq-eqb, ltb-true, ne_eqb, or_from, or_left}
use Rattle.std.proofs.lemmas.Option.{slice_get-map}
use Rattle.conc_types.specs.declared.facts.Facts.{Facts}
use Rattle.conc_types.specs.declared.facts.State.{State}
use Rattle.conc_types.specs.declared.plan.Plan.{Plan}
use Rattle.conc_types.specs.declared.plan.Req.{Req}
use Rattle.conc_base_law.specs.State.{facts_at, is_live}
use Rattle.conc_base_law.specs.Words.{Has}
use Rattle.conc_event_queue.specs.Written.{IsWritten}
use Rattle.conc_event_queue.proofs.Maps.{facts_at-before, facts_at-written, request_at_place, slice_get-set_other}
use Rattle.conc_event_classes.specs.Classes.{are_rising, are_rivals, AreClasses, class_at, rivals_at}
use Rattle.conc_event_classes.specs.declared.classes.Classes.{Classes}
use Rattle.conc_machine_release.specs.Lets.{all_classes, is_live_rival, live_rivals}
use Rattle.conc_machine_release.specs.Renewal.{recounted, recounted_by}
use Rattle.conc_machine_release.specs.Rivals.{counted, counted_all, counted_at}
use Rattle.conc_machine_release.proofs.Lists.{length-filter_change, length-filter_most, map_range-same, range-get, same_list}

-- ---- one more, or one less, for some classes

option-same : {T : Type 0} (f : T → T) (o : Option T) → ((x : T) → f x ≡ x) → option_map f o ≡ o
option-same f None h = refl
option-same f (Some x) h = ap (λ y. Some y) (h x)

set-own : (f : ℕ → ℕ) (xs : List ℕ) (k : ℕ) → slice_get (set xs k (f (get_or xs k 0))) k ≡ option_map f (slice_get xs k)
set-own f [] k = refl
set-own f (x ∷ xs) zero = refl
set-own f (x ∷ xs) (suc k) = set-own f xs k

counted_at-own : (more : Bool) (counts : List ℕ) (x : ℕ) → slice_get (counted_at more counts x) x ≡ option_map (counted more) (slice_get counts x)
counted_at-own more counts x = set-own (counted more) counts x

counted_at-other : (more : Bool) (counts : List ℕ) (x d : ℕ) → (d ≡ x → ⊥) → slice_get (counted_at more counts x) d ≡ slice_get counts d
counted_at-other more counts x d ne = slice_get-set_other counts x d (counted more (get_or counts x 0)) ne

-- a number is none of those that are all greater
none-later : (x : ℕ) (xs : List ℕ) → list_all (nat_lt x) xs ≡ true → list_any (λ y. y == x) xs ≡ false
none-later x [] h = refl
none-later x (y ∷ ys) h =
    let p : (nat_lt x y ≡ true) × (list_all (nat_lt x) ys ≡ true) = and_parts _ _ h in
    let less : x < y = ltb-true x y p.0 in
    or_from _ _ (ne_eqb y x (λ (e : y ≡ x). omega arith)) (none-later x ys p.1)

counted_all-get : (more : Bool) (most : ℕ) (at counts : List ℕ) (d : ℕ) → are_rising most at ≡ true
    → slice_get (counted_all more at counts) d ≡ option_map (λ n. cond (list_any (λ y. y == d) at) (counted more n) n) (slice_get counts d)
unfolding counted_all
counted_all-get more most [] counts d ok = sym (option-same (λ n. n) (slice_get counts d) (λ x. refl))
counted_all-get more most (x ∷ xs) counts d ok =
    let p : (nat_lt x most ≡ true) × ((list_all (nat_lt x) xs && are_rising most xs) ≡ true) = and_parts _ _ ok in
    let q : (list_all (nat_lt x) xs ≡ true) × (are_rising most xs ≡ true) = and_parts _ _ p.1 in
    counted_all-get more most xs (counted_at more counts x) d q.1
    ∙ elim (cases_eq d x) [
      | inr ne ↦
          ap (option_map (λ n. cond (list_any (λ y. y == d) xs) (counted more n) n)) (counted_at-other more counts x d ne)
          ∙ ap (λ b. option_map (λ n. cond (b || list_any (λ y. y == d) xs) (counted more n) n) (slice_get counts d)) (sym (ne_eqb x d (λ (e : x ≡ d). ne (sym e))))
      | inl e ↦
          let later : list_any (λ y. y == d) xs ≡ false = ap (λ m. list_any (λ y. y == m) xs) e ∙ none-later x xs q.0 in
          let own : slice_get (counted_at more counts x) d ≡ option_map (counted more) (slice_get counts d) =
          ap (slice_get (counted_at more counts x)) e ∙ counted_at-own more counts x ∙ ap (λ m. option_map (counted more) (slice_get counts m)) (sym e) in
          ap (λ b. option_map (λ n. cond b (counted more n) n) (slice_get (counted_at more counts x) d)) later
          ∙ option-same (λ n. n) (slice_get (counted_at more counts x) d) (λ n. refl)
          ∙ own
          ∙ ap (λ b. option_map (λ n. cond b (counted more n) n) (slice_get counts d)) (sym (or_left (x == d) (list_any (λ y. y == d) xs) (eq-eqb x d (sym e))))
    ]

-- ---- live rivals

-- the live rivals of a class before and after the write
rivals-written : (plan : Plan) (classes : Classes) (before s : State) (i : ℕ) (old : Facts) → IsWritten plan before s i old → (r : Req) → slice_get plan.requests i ≡ Some r → (c : ℕ)
    → live_rivals plan classes s c + cond (is_live old && are_rivals classes (class_at classes r) c) 1 0
    ≡ live_rivals plan classes before c + cond (is_live (facts_at s r) && are_rivals classes (class_at classes r) c) 1 0
unfolding live_rivals is_live_rival
rivals-written plan classes before s i old w r at c =
    ap (λ f. live_rivals plan classes s c + cond (is_live f && are_rivals classes (class_at classes r) c) 1 0) (sym (facts_at-before plan before s i old w r at))
    ∙ length-filter_change (is_live_rival classes before c) (is_live_rival classes s c) plan.requests i r at (λ k q there ne.
    let n : (q.number.number ≡ k + 1) × Has plan.requests q = request_at_place plan k q there in
    ap (λ f. is_live f && are_rivals classes (class_at classes q) c)
    (facts_at-written plan before s i old w q (λ (m : q.number.number ≡ i + 1). ne (omega (arith, n.0)))))

-- live rivals are few
rivals-few : (plan : Plan) (classes : Classes) (s : State) (c : ℕ) → live_rivals plan classes s c ≤ 16384
unfolding live_rivals
rivals-few plan classes s c = omega (arith, length-filter_most (is_live_rival classes s c) plan.requests, plan.few)

counted-right : (live was a : Bool) (f g : ℕ) → f ≤ 16384 → (live ≡ not was) → g + cond (was && a) 1 0 ≡ f + cond (live && a) 1 0 → cond a (counted live f) f ≡ g
counted-right true false true f g few d e = omega arith
counted-right true false false f g few d e = omega arith
counted-right false true true f g few d e = omega arith
counted-right false true false f g few d e = omega arith
counted-right true true a f g few d e = cc
counted-right false false a f g few d e = cc

-- the counts after a write, where a request became live or ceased to be so
counts-changed : (plan : Plan) (classes : Classes) → AreClasses plan classes → (before s : State) (i : ℕ) (old : Facts) → IsWritten plan before s i old → (r : Req)
    → slice_get plan.requests i ≡ Some r → (live was : Bool) → is_live (facts_at s r) ≡ live → is_live old ≡ was → live ≡ not was
    → (counts : List ℕ) → counts ≡ map (live_rivals plan classes before) (all_classes classes)
    → counted_all live (rivals_at classes (class_at classes r)) counts ≡ map (live_rivals plan classes s) (all_classes classes)
unfolding are_rivals
counts-changed plan classes are before s i old w r at live was now then d counts is = same_list _ _ (λ k.
    counted_all-get live (length classes.sizes) (rivals_at classes (class_at classes r)) counts k (are.rising (class_at classes r))
    ∙ ap (λ l. option_map (λ n. cond (list_any (λ y. y == k) (rivals_at classes (class_at classes r))) (counted live n) n) (slice_get l k)) is
    ∙ ap (option_map (λ n. cond (list_any (λ y. y == k) (rivals_at classes (class_at classes r))) (counted live n) n)) (slice_get-map (live_rivals plan classes before) (all_classes classes) k)
    ∙ by k (slice_get (all_classes classes) k) refl
    ∙ sym (slice_get-map (live_rivals plan classes s) (all_classes classes) k)) where
      few : (c : ℕ) → live_rivals plan classes before c ≤ 16384
      few c = rivals-few plan classes before c

      value : (k c : ℕ) → c ≡ k
          → cond (list_any (λ y. y == k) (rivals_at classes (class_at classes r))) (counted live (live_rivals plan classes before c)) (live_rivals plan classes before c) ≡ live_rivals plan classes s c
      value k c e =
          ap (λ m. cond (list_any (λ y. y == m) (rivals_at classes (class_at classes r))) (counted live (live_rivals plan classes before c)) (live_rivals plan classes before c)) (sym e)
          ∙ counted-right live was (are_rivals classes (class_at classes r) c) (live_rivals plan classes before c) (live_rivals plan classes s c) (few c) d
          (ap (λ b. live_rivals plan classes s c + cond (b && are_rivals classes (class_at classes r) c) 1 0) (sym then)
          ∙ rivals-written plan classes before s i old w r at c
          ∙ ap (λ b. live_rivals plan classes before c + cond (b && are_rivals classes (class_at classes r) c) 1 0) now)

      by : (k : ℕ) (o : Option ℕ) → slice_get (all_classes classes) k ≡ o
          → option_map (λ n. cond (list_any (λ y. y == k) (rivals_at classes (class_at classes r))) (counted live n) n) (option_map (live_rivals plan classes before) o)
          ≡ option_map (live_rivals plan classes s) o
      by k None e = refl
      by k (Some c) e =
          let p : (c ≡ 0 + k) × (k < length classes.sizes) = range-get 0 (length classes.sizes) k c e in
          ap (λ n. Some n) (value k c (omega (arith, p.0)))

-- the counts after a write, where the request is live or not as before
counts-same : (plan : Plan) (classes : Classes) (before s : State) (i : ℕ) (old : Facts) → IsWritten plan before s i old → (r : Req)
    → slice_get plan.requests i ≡ Some r → is_live (facts_at s r) ≡ is_live old
    → (counts : List ℕ) → counts ≡ map (live_rivals plan classes before) (all_classes classes) → counts ≡ map (live_rivals plan classes s) (all_classes classes)
counts-same plan classes before s i old w r at same counts is =
    is ∙ map_range-same (live_rivals plan classes before) (live_rivals plan classes s) 0 (length classes.sizes) (λ c le.
    sums _ _ _ (rivals-written plan classes before s i old w r at c ∙ ap (λ b. live_rivals plan classes before c + cond (b && are_rivals classes (class_at classes r) c) 1 0) same)) where
      sums : (a b n : ℕ) → b + n ≡ a + n → a ≡ b
      sums a b n e = omega arith

-- the counts after a write are those of the state
pub recounted-is : (plan : Plan) (classes : Classes) → AreClasses plan classes → (before s : State) (i : ℕ) (old : Facts) → IsWritten plan before s i old → (r : Req)
    → slice_get plan.requests i ≡ Some r → (counts : List ℕ) → counts ≡ map (live_rivals plan classes before) (all_classes classes)
    → recounted classes s old counts r ≡ map (live_rivals plan classes s) (all_classes classes)
recounted-is plan classes are before s i old w r at counts is = by (is_live (facts_at s r)) (is_live old) refl refl where
  by : (live was : Bool) → is_live (facts_at s r) ≡ live → is_live old ≡ was
      → recounted_by live was (rivals_at classes (class_at classes r)) counts ≡ map (live_rivals plan classes s) (all_classes classes)
  by true false now then = counts-changed plan classes are before s i old w r at true false now then refl counts is
  by false true now then = counts-changed plan classes are before s i old w r at false true now then refl counts is
  by true true now then = counts-same plan classes before s i old w r at (now ∙ sym then) counts is
  by false false now then = counts-same plan classes before s i old w r at (now ∙ sym then) counts is
