-- Which ready requests no live one excludes, by counts of live requests.
use Rattle.std.proofs.Common.{◌≡◌, ℕ, ◌+◌, ◌<◌, ◌≤◌, Bool, true, false, not, ◌&&◌, ◌||◌, ◌==◌, cond, length, Option, None, Some, refl, sym, ◌∙◌, ap, inl, inr, arith}
use Rattle.std.specs.Prelude.{if◌then◌else◌, slice_get}
use Rattle.std.specs.List.{filter}
use Rattle.std.specs.Option.{option_and_then}
use Rattle.std.proofs.lemmas.Bool.{and_left, and_parts, and_right, both_ways, cases_Bool, cases_eq, eq-eqb, eqb-true, false_from_ne_true, leb-true, ltb-true, ne_eqb, not-true}
use Rattle.conc_types.specs.declared.event.RequestId.{RequestId}
use Rattle.conc_types.specs.declared.facts.State.{State}
use Rattle.conc_types.specs.declared.plan.Plan.{Plan}
use Rattle.conc_types.specs.declared.plan.Req.{Req}
use Rattle.conc_types.specs.Plans.{request}
use Rattle.conc_types.specs.Words.{some_and}
use Rattle.conc_base_law.specs.Exclusion.{excludes, is_kin}
use Rattle.conc_base_law.specs.Next.{blocks, is_free, is_ready, may_let}
use Rattle.conc_base_law.specs.Plans.{are_exclusive, parent}
use Rattle.conc_base_law.specs.State.{facts_at, is_live}
use Rattle.conc_base_law.specs.Words.{Has, id_eq}
use Rattle.conc_base_law.proofs.Numbering.{found, numbered_plan}
use Rattle.conc_event_queue.proofs.Maps.{place_of_request, request_at_place}
use Rattle.conc_event_classes.specs.Classes.{AreClasses, clash, class_at, excludes_kin_at}
use Rattle.conc_event_classes.specs.declared.classes.Classes.{Classes}
use Rattle.conc_event_reach.specs.Spans.{AreSpans, span_of_members}
use Rattle.conc_event_reach.specs.declared.spans.Spans.{Spans}
use Rattle.conc_machine_release.specs.Forced.{is_child, is_live_member, is_live_outside, has_only_kin_rivals, live_members, live_parents}
use Rattle.conc_machine_release.specs.Lets.{is_live_rival, live_rivals}
use Rattle.conc_machine_release.proofs.Lists.{any-filter, length-filter_change, length-filter_none, length-filter_parts, length-filter_same}
use Rattle.conc_machine_release.proofs.Queues.{same_number}

-- ---- members stand within their span

-- a member of a set names it
child-parent : (set : RequestId) (q : Req) → is_child set q ≡ true → (p : RequestId) × (q.parent ≡ Some p) × (set.number ≡ p.number)
child-parent set q h = by q.parent refl h where
  by : (o : Option RequestId) → q.parent ≡ o → some_and (id_eq set) o ≡ true → (p : RequestId) × (q.parent ≡ Some p) × (set.number ≡ p.number)
  by None e h = cc
  by (Some p) e h = (p, e, eqb-true set.number p.number h)

-- no request outside the span of a set is a member of it
pub child-outside : (plan : Plan) (spans : Spans) → AreSpans plan spans → (set : RequestId) (k : ℕ) (y : Req) → slice_get plan.requests k ≡ Some y
    → ((span_of_members spans set).from ≤ k → k < (span_of_members spans set).to → ⊥) → is_child set y ≡ false
child-outside plan spans are set k y at out = false_from_ne_true (is_child set y) (λ h.
    let p : (p : RequestId) × (y.parent ≡ Some p) × (set.number ≡ p.number) = child-parent set y h in
    let same : p.0 ≡ set = ap (λ n. record { number = n }) (sym p.2) in
    let w = and_parts _ _ (are.members k y set at (p.1 ∙ ap (λ z. Some z) same)) in
    out (leb-true _ _ w.0) (ltb-true _ _ w.1))

pub members-outside : (plan : Plan) (spans : Spans) → AreSpans plan spans → (classes : Classes) (s : State) (c : ℕ) (r : Req) (k : ℕ) (y : Req)
    → slice_get plan.requests k ≡ Some y → ((span_of_members spans r.number).from ≤ k → k < (span_of_members spans r.number).to → ⊥)
    → is_live_member classes s c r y ≡ false
unfolding is_live_member
members-outside plan spans are classes s c r k y at out = and_right (is_live_rival classes s c y) (is_child r.number y) (child-outside plan spans are r.number k y at out)

-- ---- the parent

-- one request at most has the number of a parent
parents-one : (plan : Plan) (t : Req → Bool) (r : Req)
    → length (filter (λ q. t q && is_child q.number r) plan.requests) ≡ (if some_and t (parent plan r) then 1 else 0)
unfolding parent
parents-one plan t r = by r.parent refl where
  none : (p : RequestId) → r.parent ≡ Some p → request plan p ≡ None → length (filter (λ q. t q && is_child q.number r) plan.requests) ≡ 0
  none p e lost = length-filter_none (λ q. t q && is_child q.number r) plan.requests (λ q has. and_right (t q) (is_child q.number r)
      (false_from_ne_true (is_child q.number r) (λ h.
      let w : (o : RequestId) × (r.parent ≡ Some o) × (q.number.number ≡ o.number) = child-parent q.number r h in
      let two : ◌≡◌ {A = Option RequestId} (Some w.0) (Some p) = sym w.1 ∙ e in
      let one : w.0 ≡ p = cc in
      let same : q.number ≡ p = ap (λ n. record { number = n }) (w.2 ∙ ap (λ z. z.number) one) in
      let is : ◌≡◌ {A = Option Req} (Some q) None = sym (numbered_plan plan q has) ∙ ap (request plan) same ∙ lost in
      cc)))

  some : (p : RequestId) (set : Req) → r.parent ≡ Some p → request plan p ≡ Some set
      → length (filter (λ q. t q && is_child q.number r) plan.requests) ≡ cond (t set) 1 0
  some p set e is =
      let f : (set.number.number ≡ p.number) × Has plan.requests set = found plan p set is in
      let k : (k : ℕ) × (slice_get plan.requests k ≡ Some set) × (set.number.number ≡ k + 1) = place_of_request plan set f.1 in
      let own : is_child set.number r ≡ true = ap (some_and (id_eq set.number)) e ∙ eq-eqb set.number.number p.number f.0 in
      let change : length (filter (λ q. t q && is_child q.number r) plan.requests) + 0 ≡ length (filter (λ (q : Req). false) plan.requests) + cond (t set && is_child set.number r) 1 0 =
      length-filter_change (λ (q : Req). false) (λ q. t q && is_child q.number r) plan.requests k.0 set k.1 (λ j y at ne. and_right (t y) (is_child y.number r)
      (false_from_ne_true (is_child y.number r) (λ h.
      let w : (o : RequestId) × (r.parent ≡ Some o) × (y.number.number ≡ o.number) = child-parent y.number r h in
      let two : ◌≡◌ {A = Option RequestId} (Some w.0) (Some p) = sym w.1 ∙ e in
      let one : w.0 ≡ p = cc in
      let n : (y.number.number ≡ j + 1) × Has plan.requests y = request_at_place plan j y at in
      let m : w.0.number ≡ p.number = ap (λ z. z.number) one in
      ne (omega (arith, n.0, w.2, m, f.0, k.2))))) in
      let zero : length (filter (λ (q : Req). false) plan.requests) ≡ 0 = length-filter_none (λ (q : Req). false) plan.requests (λ y has. refl) in
      sums _ _ (t set) (is_child set.number r) change zero own where
        sums : (a b : ℕ) (x y : Bool) → a + 0 ≡ b + cond (x && y) 1 0 → b ≡ 0 → y ≡ true → a ≡ cond x 1 0
        sums a b true true e z own = omega arith
        sums a b false true e z own = omega arith
        sums a b x false e z own = cc

  at : (p : RequestId) (o : Option Req) → r.parent ≡ Some p → request plan p ≡ o
      → length (filter (λ q. t q && is_child q.number r) plan.requests) ≡ (if some_and t o then 1 else 0)
  at p None e is = none p e is
  at p (Some set) e is = some p set e is

  by : (o : Option RequestId) → r.parent ≡ o
      → length (filter (λ q. t q && is_child q.number r) plan.requests) ≡ (if some_and t (option_and_then (request plan) o) then 1 else 0)
  by None e = length-filter_none (λ q. t q && is_child q.number r) plan.requests
      (λ q has. and_right (t q) (is_child q.number r) (ap (some_and (id_eq q.number)) e))
  by (Some p) e = at p (request plan p) e refl

-- ---- kin

both-first : (a c p : Bool) → ((a && (c || p)) && c) ≡ (a && c)
both-first true true p = refl
both-first true false true = refl
both-first true false false = refl
both-first false c p = refl

both-second : (a c p : Bool) → ((a && (c || p)) && not c) ≡ ((a && not c) && p)
both-second true true p = refl
both-second true false true = refl
both-second true false false = refl
both-second false c p = refl

-- the live requests that are kin of r, and whose classes exclude its class
kin-count : (plan : Plan) (classes : Classes) (s : State) (c : ℕ) (r : Req)
    → length (filter (λ q. is_live_rival classes s c q && is_kin q r) plan.requests) ≡ live_members plan classes s c r + live_parents plan classes s c r
unfolding is_kin live_members live_parents is_live_member is_live_outside
kin-count plan classes s c r =
    length-filter_parts (λ q. is_live_rival classes s c q && is_kin q r) (is_child r.number) plan.requests
    ∙ ap (λ n. n + length (filter (λ q. (is_live_rival classes s c q && is_kin q r) && not (is_child r.number q)) plan.requests))
    (length-filter_same (λ q. is_live_rival classes s c q && is_child r.number q) (λ q. (is_live_rival classes s c q && is_kin q r) && is_child r.number q) plan.requests
    (λ q has. both-first (is_live_rival classes s c q) (is_child r.number q) (is_child q.number r)))
    ∙ ap (λ n. length (filter (λ q. is_live_rival classes s c q && is_child r.number q) plan.requests) + n)
    (length-filter_same (λ q. (is_live_rival classes s c q && not (is_child r.number q)) && is_child q.number r)
    (λ q. (is_live_rival classes s c q && is_kin q r) && not (is_child r.number q)) plan.requests
    (λ q has. both-second (is_live_rival classes s c q) (is_child r.number q) (is_child q.number r))
    ∙ parents-one plan (λ q. is_live_rival classes s c q && not (is_child r.number q)) r)

-- ---- those that exclude a ready request

-- the live requests that exclude r
pub strangers : Plan → Classes → State → ℕ → Req → ℕ
strangers plan classes s c r = length (filter (λ q. is_live_rival classes s c q && not (is_kin q r)) plan.requests)

-- all live rivals are kin or not
pub rivals-parts : (plan : Plan) (classes : Classes) (s : State) (c : ℕ) (r : Req)
    → live_rivals plan classes s c ≡ live_members plan classes s c r + live_parents plan classes s c r + strangers plan classes s c r
unfolding live_rivals strangers
rivals-parts plan classes s c r =
    length-filter_parts (is_live_rival classes s c) (λ q. is_kin q r) plan.requests
    ∙ ap (λ n. n + length (filter (λ q. is_live_rival classes s c q && not (is_kin q r)) plan.requests)) (kin-count plan classes s c r)

-- a ready request is not live
pub ready-not_live : (plan : Plan) (s : State) (r : Req) → is_ready plan s r ≡ true → is_live (facts_at s r) ≡ false
unfolding is_ready
ready-not_live plan s r h = not-true _ (and_parts _ _ (and_parts _ _ h).1).0

arranged : (l i k c : Bool) → (l ≡ true → i ≡ false) → (l && (not i && (not k && c))) ≡ ((l && c) && not k)
arranged false i k c h = refl
arranged true i k c h = rw (h refl) (by k c) where
  by : (k c : Bool) → (not k && c) ≡ (c && not k)
  by true true = refl
  by true false = refl
  by false true = refl
  by false false = refl

-- a live request excludes a ready one where its class does and it is no kin
blocks-ready : (plan : Plan) (classes : Classes) (s : State) → AreClasses plan classes → (q r : Req) → Has plan.requests q → Has plan.requests r → is_ready plan s r ≡ true
    → blocks plan s r q ≡ (is_live_rival classes s (class_at classes r) q && not (is_kin q r))
unfolding blocks are_exclusive excludes is_live_rival clash facts_at
blocks-ready plan classes s are q r hq hr ready =
    arranged (is_live (facts_at s q)) (id_eq q.number r.number) (is_kin q r) (clash plan q r)
    (λ l. false_from_ne_true (id_eq q.number r.number) (λ h. both_ways _ (ready-not_live plan s r ready)
    (ap (λ z. is_live (facts_at s z)) (sym (same_number plan q r hq hr (eqb-true q.number.number r.number.number h))) ∙ l)))
    ∙ ap (λ b. (is_live (facts_at s q) && b) && not (is_kin q r)) (are.rivals q r hq hr)

-- a ready request is free where no stranger is live
pub free-count : (plan : Plan) (classes : Classes) (s : State) → AreClasses plan classes → (r : Req) → Has plan.requests r → is_ready plan s r ≡ true
    → is_free plan s r ≡ (strangers plan classes s (class_at classes r) r == 0)
unfolding is_free strangers
free-count plan classes s are r has ready =
    ap (λ b. not b) (any-filter (blocks plan s r) plan.requests)
    ∙ twice (length (filter (blocks plan s r) plan.requests) == 0)
    ∙ ap (λ n. n == 0) (length-filter_same (λ q. is_live_rival classes s (class_at classes r) q && not (is_kin q r)) (blocks plan s r) plan.requests
    (λ q hq. blocks-ready plan classes s are q r hq has ready)) where
      twice : (b : Bool) → not (not b) ≡ b
      twice true = refl
      twice false = refl

-- a request may be let where it is ready and free
pub may_let-parts : (plan : Plan) (s : State) (r : Req) → may_let plan s r ≡ (is_ready plan s r && is_free plan s r)
unfolding may_let
may_let-parts plan s r = refl

-- all rivals of a request are kin where so many live rivals are kin of it as there are
pub kin_marked-may_let : (plan : Plan) (classes : Classes) (s : State) → AreClasses plan classes → (c : ℕ) (r : Req) → Has plan.requests r
    → has_only_kin_rivals plan classes s c (live_rivals plan classes s c) r ≡ ((class_at classes r == c) && may_let plan s r)
unfolding has_only_kin_rivals
kin_marked-may_let plan classes s are c r has = elim (cases_Bool (class_at classes r == c)) [
  | inr f ↦ and_left _ _ f ∙ sym (and_left _ _ f)
  | inl t ↦ ap (λ b. (class_at classes r == c) && b) (elim (cases_Bool (is_ready plan s r)) [
    | inr f ↦ and_left _ _ f ∙ sym (may_let-parts plan s r ∙ and_left _ _ f)
    | inl ready ↦
        let e : class_at classes r ≡ c = eqb-true (class_at classes r) c t in
        ap (λ b. is_ready plan s r && b)
        (rest-none (live_members plan classes s c r + live_parents plan classes s c r) (live_rivals plan classes s c) (strangers plan classes s c r) (rivals-parts plan classes s c r)
        ∙ ap (λ d. strangers plan classes s d r == 0) (sym e)
        ∙ sym (free-count plan classes s are r has ready))
        ∙ sym (may_let-parts plan s r)
  ])
] where
  rest-none : (kin all rest : ℕ) → all ≡ kin + rest → (kin == all) ≡ (rest == 0)
  rest-none kin all rest e = elim (cases_eq rest 0) [
    | inl z ↦ eq-eqb kin all (omega arith) ∙ sym (eq-eqb rest 0 z)
    | inr ne ↦ ne_eqb kin all (λ (k : kin ≡ all). ne (omega arith)) ∙ sym (ne_eqb rest 0 ne)
  ]

-- where no rival is live, a ready request may be let
pub free-may_let : (plan : Plan) (classes : Classes) (s : State) → AreClasses plan classes → (r : Req) → Has plan.requests r
    → live_rivals plan classes s (class_at classes r) ≡ 0 → is_ready plan s r ≡ may_let plan s r
free-may_let plan classes s are r has none = elim (cases_Bool (is_ready plan s r)) [
  | inr f ↦ f ∙ sym (may_let-parts plan s r ∙ and_left _ _ f)
  | inl ready ↦
      let rest : strangers plan classes s (class_at classes r) r ≡ 0 = omega (arith, rivals-parts plan classes s (class_at classes r) r, none) in
      let free : is_free plan s r ≡ true = free-count plan classes s are r has ready ∙ eq-eqb _ 0 rest in
      ready ∙ sym (may_let-parts plan s r ∙ ap (λ b. b && is_free plan s r) ready ∙ free)
]

-- where a rival is live and the class excludes no kin, none may be let
pub rival-may_let : (plan : Plan) (classes : Classes) (s : State) → AreClasses plan classes → (r : Req) → Has plan.requests r
    → (live_rivals plan classes s (class_at classes r) ≡ 0 → ⊥) → excludes_kin_at classes (class_at classes r) ≡ false → may_let plan s r ≡ false
unfolding live_rivals strangers is_live_rival
rival-may_let plan classes s are r has some excludes_kin = elim (cases_Bool (is_ready plan s r)) [
  | inr f ↦ may_let-parts plan s r ∙ and_left _ _ f
  | inl ready ↦
      let none : length (filter (λ q. is_live_rival classes s (class_at classes r) q && is_kin q r) plan.requests) ≡ 0 =
      length-filter_none (λ q. is_live_rival classes s (class_at classes r) q && is_kin q r) plan.requests (λ q hq. elim (cases_Bool (is_kin q r)) [
        | inr f ↦ and_right _ _ f
        | inl kin ↦ and_left _ _ (and_right _ _ (sym (are.rivals q r hq has) ∙ are.kin_marked q r hq has kin excludes_kin))
      ]) in
      let parts : live_rivals plan classes s (class_at classes r) ≡ length (filter (λ q. is_live_rival classes s (class_at classes r) q && is_kin q r) plan.requests) + strangers plan classes s (class_at classes r) r =
      length-filter_parts (is_live_rival classes s (class_at classes r)) (λ q. is_kin q r) plan.requests in
      let rest : strangers plan classes s (class_at classes r) r ≡ 0 → ⊥ = λ z. some (parts ∙ sums _ _ none z) in
      may_let-parts plan s r ∙ and_right _ _ (free-count plan classes s are r has ready ∙ ne_eqb _ 0 rest)
] where
  sums : (a b : ℕ) → a ≡ 0 → b ≡ 0 → a + b ≡ 0
  sums a b e f = omega arith
