-- The figures of keys by those of numbers: one more row, and one more number.
use Rattle.std.proofs.Common.{◌≡◌, ◌∙◌, sym, ap, refl, ℕ, zero, suc, ◌+◌, ◌<◌, ◌≤◌, ◌==◌, ℤ, ◌+ℤ◌, pos, arith, Bool, true, false, List, [], ◌∷◌, ◌++◌, Option, None, Some, cond, if◌then◌else◌, get_or, length, length-set, length-take, set, take}
use Rattle.std.specs.BTreeMap.{BTreeMap, UpdatesBy}
use Rattle.std.specs.Borrow.{Bor}
use Rattle.std.specs.Cmp.Lexicographic.{slice_cmp}
use Rattle.std.specs.List.{All}
use Rattle.std.specs.Option.{IfSome, is_some, option_map}
use Rattle.std.specs.Ordering.{nat_cmp}
use Rattle.std.specs.Str.{bytes_eq}
use Rattle.std.proofs.lemmas.Bool.Decides.{nat_tests}
use Rattle.std.proofs.lemmas.Int.{ints}
use Rattle.std.proofs.lemmas.List.{take_more}
use Rattle.std.proofs.lemmas.List.Elements.{All-get_or, All-head, All-same, All-set, All-tail, All-weaker}
use Rattle.std.proofs.lemmas.Slice.Eq.{bytes_eq-Decides}
use Rattle.conc_reports.proofs.Growth.{figures_at-put}
use Rattle.conc_reports.specs.declared.figures.Figures.{Figures}
use Rattle.conc_reports.specs.Figures.{figures_at, grown, grown_at, shown}
use Rattle.conc_reports.specs.Listings.{AddsTo, StandsFor, figures_by, if_any, joined}

abbrev pair : ℕ → ℤ → Option (ℕ × ℤ)
pair count sum = Some (count, sum)

same_pair : (m n : ℕ) (x y : ℤ) → m ≡ n → x ≡ y → pair m x ≡ pair n y
same_pair m n x y p q = λ i. pair (p i) (q i)

-- ---- figures joined

joined-none : (these : Option (ℕ × ℤ)) → joined these None ≡ these
joined-none None = refl
joined-none (Some a) = refl

joined_assoc : (x y z : Option (ℕ × ℤ)) → joined x (joined y z) ≡ joined (joined x y) z
joined_assoc None y z = refl
joined_assoc (Some a) None z = refl
joined_assoc (Some a) (Some b) None = refl
joined_assoc (Some a) (Some b) (Some c) = same_pair (a.0 + (b.0 + c.0)) (a.0 + b.0 + c.0) (a.1 +ℤ (b.1 +ℤ c.1)) (a.1 +ℤ b.1 +ℤ c.1) (omega arith) (omega (arith, ints))

-- one value more in the second
joined-grown : (x y : Option (ℕ × ℤ)) (value : ℤ) → joined x (Some (grown value y)) ≡ Some (grown value (joined x y))
joined-grown None y value = refl
joined-grown (Some a) None value = refl
joined-grown (Some a) (Some b) value = same_pair (a.0 + (b.0 + 1)) (a.0 + b.0 + 1) (a.1 +ℤ (b.1 +ℤ value)) (a.1 +ℤ b.1 +ℤ value) (omega arith) (omega (arith, ints))

-- one value more in the first
grown-joined_by : (b : Bool) (a : ℕ × ℤ) (y : Option (ℕ × ℤ)) (value : ℤ) → (a.0 == 0) ≡ b → (a.0 ≡ 0 → a.1 ≡ pos 0) → joined (Some (grown value (Some a))) y ≡ Some (grown value (joined (cond b None (Some a)) y))
grown-joined_by true a None value e zero_sum =
    let none : a.0 ≡ 0 = grind (arith, nat_tests) in
    let sum = zero_sum none in
    same_pair (a.0 + 1) 1 (a.1 +ℤ value) value (omega arith) (omega (arith, ints))
grown-joined_by true a (Some b) value e zero_sum =
    let none : a.0 ≡ 0 = grind (arith, nat_tests) in
    let sum = zero_sum none in
    same_pair (a.0 + 1 + b.0) (b.0 + 1) (a.1 +ℤ value +ℤ b.1) (b.1 +ℤ value) (omega arith) (omega (arith, ints))
grown-joined_by false a None value e zero_sum = refl
grown-joined_by false a (Some b) value e zero_sum = same_pair (a.0 + 1 + b.0) (a.0 + b.0 + 1) (a.1 +ℤ value +ℤ b.1) (a.1 +ℤ b.1 +ℤ value) (omega arith) (omega (arith, ints))

some_more : (a : ℕ × ℤ) (value : ℤ) → if_any (grown value (Some a)) ≡ Some (grown value (Some a))
some_more a value = let some : (a.0 + 1 == 0) ≡ false = grind (arith, nat_tests) in rw some refl

grown-joined : (a : ℕ × ℤ) (y : Option (ℕ × ℤ)) (value : ℤ) → (a.0 ≡ 0 → a.1 ≡ pos 0) → joined (if_any (grown value (Some a))) y ≡ Some (grown value (joined (if_any a) y))
grown-joined a y value zero_sum =
    ap (λ (x : Option (ℕ × ℤ)). joined x y) (some_more a value) ∙ grown-joined_by (a.0 == 0) a y value refl zero_sum

-- no row adds nothing
pub zero_sum : (f : Figures) → f.count ≡ 0 → f.sum ≡ pos 0
zero_sum f none = let least = f.least in let most = f.most in omega (arith, ints)

-- ---- one value more for a number

pub figures_by-set : (ks : List (List ℕ)) (fs : List Figures) (n : ℕ) (value : ℤ) (f d : Figures) (key : List ℕ) → n < length ks → n < length fs → shown f ≡ grown value (Some (shown (get_or fs n d)))
    → figures_by ks (set fs n f) key ≡ grown_at (Some (get_or ks n [])) value (figures_by ks fs) key
figures_by-set [] fs n value f d key below within more = absurd (omega arith)
figures_by-set (k ∷ ks) [] n value f d key below within more = absurd (omega arith)
figures_by-set (k ∷ ks) (g ∷ fs) zero value f d key below within more =
    ap (λ (x : ℕ × ℤ). joined (cond (bytes_eq k key) (if_any x) None) (figures_by ks fs key)) more
    ∙ elim (bytes_eq k key) as (λ b. joined (cond b (if_any (grown value (Some (shown g)))) None) (figures_by ks fs key) ≡ cond b (Some (grown value (joined (cond b (if_any (shown g)) None) (figures_by ks fs key)))) (joined (cond b (if_any (shown g)) None) (figures_by ks fs key))) [
      | true ↦ grown-joined (shown g) (figures_by ks fs key) value (zero_sum g)
      | false ↦ refl
    ]
figures_by-set (k ∷ ks) (g ∷ fs) (suc n) value f d key below within more =
    let rest = figures_by-set ks fs n value f d key (omega arith) (omega arith) more in
    let head = cond (bytes_eq k key) (if_any (shown g)) None in
    ap (λ (x : Option (ℕ × ℤ)). joined head x) rest
    ∙ elim (bytes_eq (get_or ks n []) key) as (λ b. joined head (cond b (Some (grown value (figures_by ks fs key))) (figures_by ks fs key)) ≡ cond b (Some (grown value (joined head (figures_by ks fs key)))) (joined head (figures_by ks fs key))) [
      | true ↦ joined-grown head (figures_by ks fs key) value
      | false ↦ refl
    ]

-- ---- no row

pub figures_by-none : (ks : List (List ℕ)) (fs : List Figures) (key : List ℕ) → All (λ (f : Figures). f.count ≡ 0) fs → figures_by ks fs key ≡ None
figures_by-none [] fs key all = refl
figures_by-none (k ∷ ks) [] key all = refl
figures_by-none (k ∷ ks) (f ∷ fs) key all =
    let none : f.count ≡ 0 = All-head (λ (g : Figures). g.count ≡ 0) f fs all in
    let test : (f.count == 0) ≡ true = grind (arith, nat_tests) in
    let rest = figures_by-none ks fs key (All-tail (λ (g : Figures). g.count ≡ 0) f fs all) in
    rw (test, rest) (elim (bytes_eq k key) as (λ b. joined (cond b None None) None ≡ None) [ true ↦ refl | false ↦ refl ])

-- ---- one number more

figures_by-push : (ks : List (List ℕ)) (fs : List Figures) (k : List ℕ) (f : Figures) (key : List ℕ) → length fs ≡ length ks
    → figures_by (ks ++ k ∷ []) (fs ++ f ∷ []) key ≡ joined (figures_by ks fs key) (cond (bytes_eq k key) (if_any (shown f)) None)
figures_by-push [] [] k f key e = joined-none _
figures_by-push [] (g ∷ fs) k f key e = absurd (omega arith)
figures_by-push (j ∷ ks) [] k f key e = absurd (omega arith)
figures_by-push (j ∷ ks) (g ∷ fs) k f key e =
    let head = cond (bytes_eq j key) (if_any (shown g)) None in
    ap (λ (x : Option (ℕ × ℤ)). joined head x) (figures_by-push ks fs k f key (omega arith))
    ∙ joined_assoc head (figures_by ks fs key) (cond (bytes_eq k key) (if_any (shown f)) None)

-- ---- one row more, with a number or none

pub figures_by-add : (ks : List (List ℕ)) (number : Option ℕ) (value : ℤ) (old new : List Figures) → AddsTo number value old new → IfSome number (λ n. n < length ks) → length old ≡ length ks
    → (key : List ℕ) → figures_by ks new key ≡ grown_at (option_map (λ n. get_or ks n []) number) value (figures_by ks old) key
figures_by-add ks None value old new same within each key = ap (λ (fs : List Figures). figures_by ks fs key) same
figures_by-add ks (Some n) value old new adds within each key =
    ap (λ (fs : List Figures). figures_by ks fs key) adds.2
    ∙ figures_by-set ks old n value adds.0 adds.0 key within (omega arith) adds.1

pub length-add : (number : Option ℕ) (value : ℤ) (old new : List Figures) → AddsTo number value old new → length new ≡ length old
length-add None value old new same = ap length same
length-add (Some n) value old new adds = ap length adds.2 ∙ length-set old n adds.0

pub few-add : (number : Option ℕ) (value : ℤ) (old new : List Figures) (most : ℕ) → AddsTo number value old new → IfSome number (λ n. n < length old) → All (λ (f : Figures). f.count ≤ most) old → All (λ (f : Figures). f.count ≤ most + 1) new
few-add None value old new most same within few =
    All-same (λ (f : Figures). f.count ≤ most + 1) new old same (All-weaker (λ (f : Figures). f.count ≤ most) (λ (f : Figures). f.count ≤ most + 1) (λ f h. omega arith) old few)
few-add (Some n) value old new most adds within few =
    let before = All-get_or (λ (f : Figures). f.count ≤ most) old n adds.0 within few in
    let count : adds.0.count ≡ (get_or old n adds.0).count + 1 = ap (λ (f : ℕ × ℤ). f.0) adds.1 in
    All-same (λ (f : Figures). f.count ≤ most + 1) new (set old n adds.0) adds.2
    (All-set (λ (f : Figures). f.count ≤ most + 1) old n adds.0 (omega arith) (All-weaker (λ (f : Figures). f.count ≤ most) (λ (f : Figures). f.count ≤ most + 1) (λ f h. omega arith) old few))

-- ---- a map that has the figures of the first numbers

one-none : (f : Figures) (b : Bool) → (f.count == 0) ≡ true → cond b (if_any (shown f)) None ≡ None
one-none f true e = rw e refl
one-none f false e = refl

-- a number that no row has adds nothing
pub StandsFor-skips : (ks : List (List ℕ)) (fs : List Figures) (n : ℕ) (f : Figures) (groups : BTreeMap (Bor (List ℕ)) Figures) → n < length ks → length fs ≡ length ks → f ≡ get_or fs n f → (f.count == 0) ≡ true
    → StandsFor (take n ks) (take n fs) groups → StandsFor (take (n + 1) ks) (take (n + 1) fs) groups
StandsFor-skips ks fs n f groups below each is none h key =
    let key-of = get_or ks n [] in
    let long : length (take n fs) ≡ length (take n ks) = omega (arith, length-take n fs, length-take n ks) in
    let within : n < length fs = omega arith in
    let last : take (n + 1) fs ≡ take n fs ++ f ∷ [] = take_more fs n f within ∙ ap (λ (g : Figures). take n fs ++ g ∷ []) (sym is) in
    h key ∙ sym (joined-none (figures_by (take n ks) (take n fs) key)) ∙ ap (joined (figures_by (take n ks) (take n fs) key)) (sym (one-none f (bytes_eq key-of key) none))
    ∙ sym (figures_by-push (take n ks) (take n fs) key-of f key long)
    ∙ ap (λ (gs : List Figures). figures_by (take n ks ++ key-of ∷ []) gs key) (sym last)
    ∙ ap (λ (js : List (List ℕ)). figures_by js (take (n + 1) fs) key) (sym (take_more ks n [] below))

with-one : (b : Bool) (f : Figures) (before : Option (ℕ × ℤ)) → (f.count == 0) ≡ false → (b ≡ true → before ≡ None)
    → (if b then Some (shown f) else before) ≡ joined before (cond b (if_any (shown f)) None)
with-one true f before some absent = rw (absent refl, some) refl
with-one false f before some absent = sym (joined-none before)

-- a number whose key the map has not so far
pub StandsFor-more : (ks : List (List ℕ)) (fs : List Figures) (n : ℕ) (k : List ℕ) (f : Figures) (groups more : BTreeMap (Bor (List ℕ)) Figures) → n < length ks → length fs ≡ length ks → get_or ks n [] ≡ k → f ≡ get_or fs n f → (f.count == 0) ≡ false
    → StandsFor (take n ks) (take n fs) groups
    → figures_at groups k ≡ None
    → UpdatesBy (λ x y. slice_cmp nat_cmp x.now y.now) (λ q. slice_cmp nat_cmp k q.now) groups more (Some f)
    → StandsFor (take (n + 1) ks) (take (n + 1) fs) more
StandsFor-more ks fs n k f groups more below each named is some h absent updates key =
    let long : length (take n fs) ≡ length (take n ks) = omega (arith, length-take n fs, length-take n ks) in
    let within : n < length fs = omega arith in
    let last : take (n + 1) fs ≡ take n fs ++ f ∷ [] = take_more fs n f within ∙ ap (λ (g : Figures). take n fs ++ g ∷ []) (sym is) in
    let named-last : take (n + 1) ks ≡ take n ks ++ k ∷ [] = take_more ks n [] below ∙ ap (λ (j : List ℕ). take n ks ++ j ∷ []) named in
    let here : bytes_eq k key ≡ true → figures_at groups key ≡ None = λ e. ap (figures_at groups) (sym ((bytes_eq-Decides k key).0 e)) ∙ absent in
    figures_at-put groups more k f updates key
    ∙ with-one (bytes_eq k key) f (figures_at groups key) some here
    ∙ ap (λ (before : Option (ℕ × ℤ)). joined before (cond (bytes_eq k key) (if_any (shown f)) None)) (h key)
    ∙ sym (figures_by-push (take n ks) (take n fs) k f key long)
    ∙ ap (λ (gs : List Figures). figures_by (take n ks ++ k ∷ []) gs key) (sym last)
    ∙ ap (λ (js : List (List ℕ)). figures_by js (take (n + 1) fs) key) (sym named-last)

-- a test for a value says that there is none
pub no-some : (x : Option Figures) (b : Bool) → b ≡ is_some x → b ≡ false → x ≡ None
no-some None b e none = refl
no-some (Some f) b e none = absurd (cc (e, none))
