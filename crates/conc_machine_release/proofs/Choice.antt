-- The least turn of those that may be let: the least candidate, or one of a class that may exclude kin.
use Rattle.std.proofs.Common.{◌≡◌, ℕ, zero, suc, ◌+◌, ◌%◌, ◌<◌, ◌≤◌, Bool, true, false, ◌&&◌, ◌||◌, ◌==◌, nat_le, nat_lt, List, [], ◌∷◌, get_or, length, map, take, Option, None, Some, if◌then◌else◌, refl, sym, ◌∙◌, ap, inl, inr, arith}
use Rattle.std.specs.Prelude.{slice_get}
use Rattle.std.specs.List.{filter, list_any, range_with_len}
use Rattle.std.proofs.lemmas.Bool.{and_left, and_parts, and_right, both_ways, cases_eq, eq-eqb, false_from_ne_true, ne_eqb}
use Rattle.std.proofs.lemmas.Bool.Decides.{nat_tests}
use Rattle.std.proofs.lemmas.List.{take_all}
use Rattle.std.proofs.lemmas.List.Folds.{list_any_more}
use Rattle.std.proofs.lemmas.List.FromFn.{get_or-map-range_with_len, length-map-range_with_len}
use Rattle.std.proofs.lemmas.Option.{get_or_from_slice_get}
use Rattle.conc_types.specs.declared.facts.State.{State}
use Rattle.conc_types.specs.declared.plan.Plan.{Plan}
use Rattle.conc_types.specs.declared.plan.Req.{Req}
use Rattle.conc_types.specs.Plans.{request}
use Rattle.conc_types.specs.Words.{some_and}
use Rattle.conc_base_law.specs.Next.{is_ready, may_let}
use Rattle.conc_base_law.specs.Words.{Has}
use Rattle.conc_base_law.proofs.Numbering.{found}
use Rattle.conc_base_law.proofs.Options.{some_and-some}
use Rattle.conc_event_queue.specs.Least.{least, lesser}
use Rattle.conc_event_queue.specs.Turns.{request_at_turn, turn, turns_of}
use Rattle.conc_event_queue.proofs.Firsts.{request_at_turn-own}
use Rattle.conc_event_queue.proofs.LeastOf.{HasLeast, least-none, least-some}
use Rattle.conc_event_classes.specs.Classes.{AreClasses, class_at, of_class, excludes_kin_at}
use Rattle.conc_event_classes.specs.declared.classes.Classes.{Classes}
use Rattle.conc_machine_release.specs.Candidates.{candidate}
use Rattle.conc_machine_release.specs.Forced.{has_only_kin_rivals, turn_in_class}
use Rattle.conc_machine_release.specs.Lets.{AreLets, live_rivals}
use Rattle.conc_machine_release.specs.declared.lets.Lets.{Lets}
use Rattle.conc_machine_release.proofs.Free.{free-may_let, may_let-parts, rival-may_let, kin_marked-may_let}
use Rattle.conc_event_queue.proofs.LeastTurns.{least-filter, least-or, least_of-none, lesser-none}
use Rattle.conc_machine_release.proofs.Lists.{any-has, filter-has, has-filter, place-has, place-some, range-below, range-has, take-none}
use Rattle.conc_machine_release.proofs.Queues.{of_class-has, turns-same}

-- ---- what is kept of a class

pub ready-kept : (plan : Plan) (classes : Classes) (s : State) (lets : Lets) → AreLets plan classes s lets → (c : ℕ) → c < length classes.sizes
    → (d : List (Option ℕ)) → get_or lets.ready.items c d ≡ turns_of (is_ready plan s) (of_class plan classes c)
ready-kept plan classes s lets are c within d =
    ap (λ l. get_or l c d) are.ready
    ∙ get_or-map-range_with_len (λ e. turns_of (is_ready plan s) (of_class plan classes e)) 0 (length classes.sizes) c c d within (omega arith)

pub ready-count : (plan : Plan) (classes : Classes) (s : State) (lets : Lets) → AreLets plan classes s lets → length lets.ready.items ≡ length classes.sizes
ready-count plan classes s lets are =
    ap length are.ready ∙ length-map-range_with_len (λ e. turns_of (is_ready plan s) (of_class plan classes e)) 0 (length classes.sizes)

pub rivals-kept : (plan : Plan) (classes : Classes) (s : State) (lets : Lets) → AreLets plan classes s lets → (c : ℕ) → c < length classes.sizes
    → get_or lets.rivals c 0 ≡ live_rivals plan classes s c
rivals-kept plan classes s lets are c within =
    ap (λ l. get_or l c 0) are.rivals
    ∙ get_or-map-range_with_len (live_rivals plan classes s) 0 (length classes.sizes) c c 0 within (omega arith)

-- ---- the least turn of a class

-- where none of the class is ready, none may be let
pub class-none : (plan : Plan) (classes : Classes) (s : State) (c : ℕ) → least (turns_of (is_ready plan s) (of_class plan classes c)) ≡ None
    → None ≡ turn_in_class plan classes s c
unfolding turn_in_class turns_of
class-none plan classes s c none = sym (least_of-none (may_let plan s) (of_class plan classes c) (λ r has.
    may_let-parts plan s r ∙ and_left _ _ (least-none (is_ready plan s) turn (of_class plan classes c) none r has)))

-- where no rival is live, each ready one may be let
pub class-free : (plan : Plan) (classes : Classes) (s : State) → AreClasses plan classes → (c : ℕ) → live_rivals plan classes s c ≡ 0
    → least (turns_of (is_ready plan s) (of_class plan classes c)) ≡ turn_in_class plan classes s c
unfolding turn_in_class
class-free plan classes s are c none = ap least (turns-same (is_ready plan s) (may_let plan s) (of_class plan classes c) (λ r has.
    let p : Has plan.requests r × (class_at classes r ≡ c) = of_class-has plan classes c r has in
    free-may_let plan classes s are r p.0 (ap (live_rivals plan classes s) p.1 ∙ none)))

-- those of the class that may be let
class-let : (plan : Plan) (classes : Classes) (s : State) (c : ℕ) → turn_in_class plan classes s c ≡ least (turns_of (λ r. (class_at classes r == c) && may_let plan s r) plan.requests)
unfolding turn_in_class of_class
class-let plan classes s c = least-filter (λ r. class_at classes r == c) (may_let plan s) plan.requests

-- otherwise those may be let of which all live rivals are kin
pub class-kin_marked : (plan : Plan) (classes : Classes) (s : State) → AreClasses plan classes → (c rivals : ℕ) → rivals ≡ live_rivals plan classes s c
    → least (turns_of (has_only_kin_rivals plan classes s c rivals) plan.requests) ≡ turn_in_class plan classes s c
class-kin_marked plan classes s are c rivals e =
    ap (λ n. least (turns_of (has_only_kin_rivals plan classes s c n) plan.requests)) e
    ∙ ap least (turns-same (has_only_kin_rivals plan classes s c (live_rivals plan classes s c)) (λ r. (class_at classes r == c) && may_let plan s r) plan.requests
    (λ r has. kin_marked-may_let plan classes s are c r has))
    ∙ sym (class-let plan classes s c)

-- the first of those that are ready, where it may be let
class-first : (plan : Plan) (classes : Classes) (s : State) (c t : ℕ) (r : Req) → least (turns_of (is_ready plan s) (of_class plan classes c)) ≡ Some t
    → request_at_turn plan t ≡ Some r → may_let plan s r ≡ true → Some t ≡ turn_in_class plan classes s c
unfolding turn_in_class turns_of
class-first plan classes s c t r first at may = by (least (turns_of (may_let plan s) (of_class plan classes c))) refl where
  ready : (x : Req) × HasLeast (is_ready plan s) turn (of_class plan classes c) t x
  ready = least-some (is_ready plan s) turn (of_class plan classes c) t first

  same : ready.0 ≡ r
  same =
      let own : request_at_turn plan (turn ready.0) ≡ Some ready.0 = request_at_turn-own plan ready.0 (of_class-has plan classes c ready.0 ready.1.element).0 in
      let two : ◌≡◌ {A = Option Req} (Some ready.0) (Some r) = sym own ∙ ap (request_at_turn plan) ready.1.own ∙ at in
      cc

  by : (o : Option ℕ) → least (turns_of (may_let plan s) (of_class plan classes c)) ≡ o → Some t ≡ o
  by None e = absurd (both_ways _ (least-none (may_let plan s) turn (of_class plan classes c) e ready.0 ready.1.element) (ap (may_let plan s) same ∙ may))
  by (Some k) e =
      let let_first : (x : Req) × HasLeast (may_let plan s) turn (of_class plan classes c) k x = least-some (may_let plan s) turn (of_class plan classes c) k e in
      let le : k ≤ turn ready.0 = let_first.1.first ready.0 ready.1.element (ap (may_let plan s) same ∙ may) in
      let ge : t ≤ turn let_first.0 = ready.1.first let_first.0 let_first.1.element (and_parts _ _ (sym (may_let-parts plan s let_first.0) ∙ let_first.1.passes)).0 in
      let one : t ≡ k = omega (arith, le, ge, ready.1.own, let_first.1.own) in
      ap (λ n. Some n) one

at_turn : (plan : Plan) (t : ℕ) (r : Req) → request_at_turn plan t ≡ Some r → request plan (record { number = t % 32768 }) ≡ Some r
unfolding request_at_turn
at_turn plan t r h = h

-- so where all its live rivals are kin
pub class-first_with_only_kin_rivals : (plan : Plan) (classes : Classes) (s : State) → AreClasses plan classes → (c rivals : ℕ) → rivals ≡ live_rivals plan classes s c
    → (t : ℕ) → least (turns_of (is_ready plan s) (of_class plan classes c)) ≡ Some t
    → some_and (has_only_kin_rivals plan classes s c rivals) (request_at_turn plan t) ≡ true → Some t ≡ turn_in_class plan classes s c
class-first_with_only_kin_rivals plan classes s are c rivals e t is h =
    let r : (r : Req) × (request_at_turn plan t ≡ Some r) × (has_only_kin_rivals plan classes s c rivals r ≡ true) = some_and-some (has_only_kin_rivals plan classes s c rivals) (request_at_turn plan t) h in
    let has : Has plan.requests r.0 = (found plan (record { number = t % 32768 }) r.0 (at_turn plan t r.0 r.1)).1 in
    let kin_marked : ((class_at classes r.0 == c) && may_let plan s r.0) ≡ true = sym (kin_marked-may_let plan classes s are c r.0 has) ∙ ap (λ n. has_only_kin_rivals plan classes s c n r.0) (sym e) ∙ r.2 in
    class-first plan classes s c t r.0 is r.1 (and_parts _ _ kin_marked).1

one-element : {T : Type 0} (xs : List T) (x y : T) → length xs ≡ 1 → Has xs x → Has xs y → x ≡ y
one-element [] x y one hx hy = absurd hx
one-element (z ∷ []) x y one hx hy = elim hx [
  | inr later ↦ absurd later
  | inl e ↦ elim hy [ inr later ↦ absurd later | inl f ↦ e ∙ sym f ]
]
one-element (z ∷ w ∷ xs) x y one hx hy = absurd (omega (arith, one))

-- where the first of those that are ready may not be let, and the class has no other request, none may be
pub class-single : (plan : Plan) (classes : Classes) (s : State) → AreClasses plan classes → (c rivals : ℕ) → rivals ≡ live_rivals plan classes s c
    → (t : ℕ) → least (turns_of (is_ready plan s) (of_class plan classes c)) ≡ Some t
    → some_and (has_only_kin_rivals plan classes s c rivals) (request_at_turn plan t) ≡ false → c < length classes.sizes → get_or classes.sizes c 0 ≡ 1
    → None ≡ turn_in_class plan classes s c
unfolding turn_in_class turns_of
class-single plan classes s are c rivals e t is excluded within size = sym (least_of-none (may_let plan s) (of_class plan classes c) (λ y has.
    ap (may_let plan s) (one-element (of_class plan classes c) y first.0 single has first.1.element) ∙ not_let)) where
      first : (x : Req) × HasLeast (is_ready plan s) turn (of_class plan classes c) t x
      first = least-some (is_ready plan s) turn (of_class plan classes c) t is

      single : length (of_class plan classes c) ≡ 1
      single =
          let there : (n : ℕ) × (slice_get classes.sizes c ≡ Some n) = place-some classes.sizes c within in
          are.sized c there.0 there.1 ∙ sym (get_or_from_slice_get classes.sizes c there.0 0 there.1) ∙ size

      known : Has plan.requests first.0 × (class_at classes first.0 ≡ c)
      known = of_class-has plan classes c first.0 first.1.element

      own : request_at_turn plan t ≡ Some first.0
      own = ap (request_at_turn plan) (sym first.1.own) ∙ request_at_turn-own plan first.0 known.0

      not_let : may_let plan s first.0 ≡ false
      not_let =
          ap (λ b. b && may_let plan s first.0) (sym (eq-eqb (class_at classes first.0) c known.1))
          ∙ sym (kin_marked-may_let plan classes s are c first.0 known.0)
          ∙ ap (λ n. has_only_kin_rivals plan classes s c n first.0) (sym e)
          ∙ ap (some_and (has_only_kin_rivals plan classes s c rivals)) (sym own)
          ∙ excluded

-- ---- candidates

-- none excludes the class of the request, and it may be let
abbrev may_let_unopposed : Plan → Classes → State → Req → Bool
may_let_unopposed plan classes s r = (live_rivals plan classes s (class_at classes r) == 0) && may_let plan s r

own-unopposed : (plan : Plan) (classes : Classes) (s : State) (c : ℕ) → live_rivals plan classes s c ≡ 0 → (r : Req)
    → ((class_at classes r == c) && may_let plan s r) ≡ ((class_at classes r == c) && may_let_unopposed plan classes s r)
own-unopposed plan classes s c none r = elim (cases_eq (class_at classes r) c) [
  | inr ne ↦ and_left _ _ (ne_eqb (class_at classes r) c ne) ∙ sym (and_left _ _ (ne_eqb (class_at classes r) c ne))
  | inl e ↦ ap (λ b. (class_at classes r == c) && (b && may_let plan s r)) (sym (eq-eqb _ 0 (ap (live_rivals plan classes s) e ∙ none)))
]

own-opposed : (plan : Plan) (classes : Classes) (s : State) (c : ℕ) → (live_rivals plan classes s c ≡ 0 → ⊥) → (r : Req)
    → ((class_at classes r == c) && may_let_unopposed plan classes s r) ≡ false
own-opposed plan classes s c some r = elim (cases_eq (class_at classes r) c) [
  | inr ne ↦ and_left _ _ (ne_eqb (class_at classes r) c ne)
  | inl e ↦ and_right _ _ (and_left _ _ (ne_eqb _ 0 (λ z. some (ap (live_rivals plan classes s) (sym e) ∙ z))))
]

-- the candidate of a class is the first of its requests that may be let, if no live request excludes the class
candidate-is : (plan : Plan) (classes : Classes) (s : State) (lets : Lets) → AreClasses plan classes → AreLets plan classes s lets → (c : ℕ) → c < length classes.sizes
    → candidate lets.ready.items lets.rivals c ≡ least (turns_of (λ r. (class_at classes r == c) && may_let_unopposed plan classes s r) plan.requests)
candidate-is plan classes s lets classes-are are c within =
    ap (λ n. if n == 0 then least (get_or lets.ready.items c []) else None) (rivals-kept plan classes s lets are c within)
    ∙ ap (λ l. if live_rivals plan classes s c == 0 then least l else None) (ready-kept plan classes s lets are c within [])
    ∙ elim (cases_eq (live_rivals plan classes s c) 0) [
      | inl none ↦
          ap (λ b. if b then least (turns_of (is_ready plan s) (of_class plan classes c)) else None) (eq-eqb _ 0 none)
          ∙ class-free plan classes s classes-are c none
          ∙ class-let plan classes s c
          ∙ ap least (turns-same (λ r. (class_at classes r == c) && may_let plan s r) (λ r. (class_at classes r == c) && may_let_unopposed plan classes s r) plan.requests
          (λ r has. own-unopposed plan classes s c none r))
      | inr some ↦
          ap (λ b. if b then least (turns_of (is_ready plan s) (of_class plan classes c)) else None) (ne_eqb _ 0 some)
          ∙ sym (least_of-none (λ r. (class_at classes r == c) && may_let_unopposed plan classes s r) plan.requests (λ r has. own-opposed plan classes s c some r))
    ]

between-none : (k a : ℕ) (m : Bool) → ((nat_le a k && nat_lt k (a + 0)) && m) ≡ false
between-none k a m = grind (arith, nat_tests)

between-more : (k a n : ℕ) (m : Bool) → (((k == a) && m) || ((nat_le (a + 1) k && nat_lt k (a + 1 + n)) && m)) ≡ ((nat_le a k && nat_lt k (a + suc n)) && m)
between-more k a n m = grind (arith, nat_tests)

between-known : (k n : ℕ) (m : Bool) → k < n → ((nat_le 0 k && nat_lt k (0 + n)) && m) ≡ m
between-known k n m h = grind (arith, nat_tests)

-- the least candidate of so many classes
candidates-least : (plan : Plan) (classes : Classes) (s : State) (lets : Lets) → AreClasses plan classes → AreLets plan classes s lets → (n a : ℕ) → a + n ≤ length classes.sizes
    → least (map (candidate lets.ready.items lets.rivals) (range_with_len a n))
    ≡ least (turns_of (λ r. (nat_le a (class_at classes r) && nat_lt (class_at classes r) (a + n)) && may_let_unopposed plan classes s r) plan.requests)
unfolding least
candidates-least plan classes s lets classes-are are zero a h =
    sym (least_of-none (λ r. (nat_le a (class_at classes r) && nat_lt (class_at classes r) (a + 0)) && may_let_unopposed plan classes s r) plan.requests
    (λ r has. between-none (class_at classes r) a (may_let_unopposed plan classes s r)))
candidates-least plan classes s lets classes-are are (suc n) a h =
    ap (λ o. lesser o (least (map (candidate lets.ready.items lets.rivals) (range_with_len (a + 1) n)))) (candidate-is plan classes s lets classes-are are a (omega (arith, h)))
    ∙ ap (lesser (least (turns_of (λ r. (class_at classes r == a) && may_let_unopposed plan classes s r) plan.requests)))
    (candidates-least plan classes s lets classes-are are n (a + 1) (omega (arith, h)))
    ∙ sym (least-or (λ r. (class_at classes r == a) && may_let_unopposed plan classes s r)
    (λ r. (nat_le (a + 1) (class_at classes r) && nat_lt (class_at classes r) (a + 1 + n)) && may_let_unopposed plan classes s r) plan.requests)
    ∙ ap least (turns-same (λ r. ((class_at classes r == a) && may_let_unopposed plan classes s r)
    || ((nat_le (a + 1) (class_at classes r) && nat_lt (class_at classes r) (a + 1 + n)) && may_let_unopposed plan classes s r))
    (λ r. (nat_le a (class_at classes r) && nat_lt (class_at classes r) (a + suc n)) && may_let_unopposed plan classes s r) plan.requests
    (λ r has. between-more (class_at classes r) a n (may_let_unopposed plan classes s r)))

-- ---- the least candidate, and classes that may exclude kin

-- none excludes the class of the request, or it is one of these; and the request may be let
abbrev may_let_among : Plan → Classes → State → List ℕ → Req → Bool
may_let_among plan classes s cs r =
    ((live_rivals plan classes s (class_at classes r) == 0) || list_any (λ c. class_at classes r == c) cs) && may_let plan s r

-- the least turn of those
abbrev pub turn_among : Plan → Classes → State → List ℕ → Option ℕ
turn_among plan classes s cs = least (turns_of (may_let_among plan classes s cs) plan.requests)

either-none : (a m : Bool) → (a && m) ≡ ((a || false) && m)
either-none true m = refl
either-none false m = refl

-- before the first of these classes, it is the least candidate
pub among-start : (plan : Plan) (classes : Classes) (s : State) (lets : Lets) → AreClasses plan classes → AreLets plan classes s lets
    → least lets.candidates ≡ turn_among plan classes s (take 0 lets.kin)
among-start plan classes s lets classes-are are =
    ap least are.candidates
    ∙ candidates-least plan classes s lets classes-are are (length classes.sizes) 0 (omega arith)
    ∙ ap least (turns-same (λ r. (nat_le 0 (class_at classes r) && nat_lt (class_at classes r) (0 + length classes.sizes)) && may_let_unopposed plan classes s r)
    (may_let_among plan classes s []) plan.requests
    (λ r has. between-known (class_at classes r) (length classes.sizes) (may_let_unopposed plan classes s r) (classes-are.known r has)
    ∙ either-none (live_rivals plan classes s (class_at classes r) == 0) (may_let plan s r)))
    ∙ ap (turn_among plan classes s) (sym (take-none lets.kin))

either-more : (a b e m : Bool) → (((a || b) && m) || (e && m)) ≡ ((a || (b || e)) && m)
either-more true b e true = refl
either-more true b true false = refl
either-more true b false false = refl
either-more false true e true = refl
either-more false true true false = refl
either-more false true false false = refl
either-more false false true m = refl
either-more false false false m = refl

-- one class more
pub among-next : (plan : Plan) (classes : Classes) (s : State) (cs : List ℕ) (i c : ℕ) → i < length cs → c ≡ get_or cs i 0
    → lesser (turn_among plan classes s (take i cs)) (turn_in_class plan classes s c) ≡ turn_among plan classes s (take (i + 1) cs)
among-next plan classes s cs i c within at =
    ap (lesser (turn_among plan classes s (take i cs))) (class-let plan classes s c)
    ∙ sym (least-or (may_let_among plan classes s (take i cs)) (λ r. (class_at classes r == c) && may_let plan s r) plan.requests)
    ∙ ap least (turns-same (λ r. may_let_among plan classes s (take i cs) r || ((class_at classes r == c) && may_let plan s r)) (may_let_among plan classes s (take (i + 1) cs)) plan.requests
    (λ r has.
    either-more (live_rivals plan classes s (class_at classes r) == 0) (list_any (λ d. class_at classes r == d) (take i cs)) (class_at classes r == c) (may_let plan s r)
    ∙ ap (λ b. ((live_rivals plan classes s (class_at classes r) == 0) || b) && may_let plan s r)
    (ap (λ d. list_any (λ d. class_at classes r == d) (take i cs) || (class_at classes r == d)) at ∙ sym (list_any_more (λ d. class_at classes r == d) cs i 0 within))))

-- the classes that may exclude kin are classes
pub kin-known : (plan : Plan) (classes : Classes) (s : State) (lets : Lets) → AreLets plan classes s lets → (i c : ℕ) → i < length lets.kin → c ≡ get_or lets.kin i 0
    → c < length classes.sizes
kin-known plan classes s lets are i c within at =
    let there : (y : ℕ) × (slice_get lets.kin i ≡ Some y) = place-some lets.kin i within in
    let same : c ≡ there.0 = at ∙ get_or_from_slice_get lets.kin i there.0 0 there.1 in
    let has : Has (filter (excludes_kin_at classes) (range_with_len 0 (length classes.sizes))) there.0 = place-has _ i there.0 (ap (λ l. slice_get l i) (sym are.kin) ∙ there.1) in
    omega (arith, same, range-below 0 (length classes.sizes) there.0 (filter-has (excludes_kin_at classes) (range_with_len 0 (length classes.sizes)) there.0 has).0)

-- the first of a class that are ready
pub first-kept : (plan : Plan) (classes : Classes) (s : State) (lets : Lets) → AreLets plan classes s lets → (c : ℕ) → c < length classes.sizes → (first : Option ℕ)
    → first ≡ least (get_or lets.ready.items c []) → least (turns_of (is_ready plan s) (of_class plan classes c)) ≡ first
first-kept plan classes s lets are c within first is = ap least (sym (ready-kept plan classes s lets are c within [])) ∙ sym is

-- a class of which none is ready changes nothing
pub among-skip : (plan : Plan) (classes : Classes) (s : State) (cs : List ℕ) (i c : ℕ) → i < length cs → c ≡ get_or cs i 0
    → least (turns_of (is_ready plan s) (of_class plan classes c)) ≡ None → turn_among plan classes s (take i cs) ≡ turn_among plan classes s (take (i + 1) cs)
among-skip plan classes s cs i c within at none =
    sym (lesser-none (turn_among plan classes s (take i cs)))
    ∙ ap (lesser (turn_among plan classes s (take i cs))) (class-none plan classes s c none)
    ∙ among-next plan classes s cs i c within at

-- a request that may be let is of a class that none excludes, or of one that may exclude kin
pub among-end : (plan : Plan) (classes : Classes) (s : State) (lets : Lets) → AreClasses plan classes → AreLets plan classes s lets → (i : ℕ) → length lets.kin ≤ i
    → turn_among plan classes s (take i lets.kin) ≡ least (turns_of (may_let plan s) plan.requests)
among-end plan classes s lets classes-are are i all =
    ap (turn_among plan classes s) (take_all i lets.kin all ∙ are.kin)
    ∙ ap least (turns-same (may_let_among plan classes s kin) (may_let plan s) plan.requests known)
  where
    kin : List ℕ
    kin = filter (excludes_kin_at classes) (range_with_len 0 (length classes.sizes))

    is : (a b m : Bool) → (a ≡ false → b ≡ false → m ≡ false) → ((a || b) && m) ≡ m
    is true b m h = refl
    is false true m h = refl
    is false false m h = sym (h refl refl)

    known : (r : Req) → Has plan.requests r → may_let_among plan classes s kin r ≡ may_let plan s r
    known r has = is (live_rivals plan classes s (class_at classes r) == 0) (list_any (λ c. class_at classes r == c) kin) (may_let plan s r) (λ some none.
        rival-may_let plan classes s classes-are r has (λ z. both_ways _ some (eq-eqb _ 0 z)) (false_from_ne_true (excludes_kin_at classes (class_at classes r))
        (λ excludes. both_ways _ none (any-has (λ c. class_at classes r == c) kin (class_at classes r)
        (has-filter (excludes_kin_at classes) (range_with_len 0 (length classes.sizes)) (class_at classes r)
        (range-has 0 (length classes.sizes) (class_at classes r) (omega arith) (omega (arith, classes-are.known r has))) excludes)
        (eq-eqb (class_at classes r) (class_at classes r) refl)))))
