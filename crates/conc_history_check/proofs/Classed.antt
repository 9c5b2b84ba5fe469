-- The least turn of the requests of a class that may be let out, and of all, class by class.
use Rattle.std.proofs.Common.{◌≡◌, ◌⊎◌, ℕ, ◌+◌, ◌<◌, ◌≤◌, Bool, true, false, ◌&&◌, map, Option, None, Some, if◌then◌else◌, refl, sym, ◌∙◌, ap, inl, inr, subst, arith}
use Rattle.std.specs.Prelude.{IsTrue, slice_get}
use Rattle.std.specs.Bool.{then_some}
use Rattle.std.proofs.lemmas.Bool.{and_from, and_parts, and_right, both_ways, cases_eq, cases_lt, le-ltb, lt-ltb}
use Rattle.conc_types.specs.declared.facts.State.{State}
use Rattle.conc_types.specs.declared.plan.Plan.{Plan}
use Rattle.conc_types.specs.declared.plan.Req.{Req}
use Rattle.conc_base_law.specs.Next.{is_free, is_ready, may_let}
use Rattle.conc_base_law.specs.State.{facts_at, is_live}
use Rattle.conc_base_law.specs.Words.{Has}
use Rattle.conc_event_classes.specs.Classes.{AreClasses, class_at, excludes_kin_at, slot_at}
use Rattle.conc_event_classes.specs.declared.classes.Classes.{Classes}
use Rattle.conc_event_queue.specs.Least.{least, lesser}
use Rattle.conc_event_queue.specs.Turns.{request_at_turn, turn, turns_of}
use Rattle.conc_event_queue.proofs.Firsts.{request_at_turn-own}
use Rattle.conc_event_queue.proofs.LeastOf.{HasLeast, least-none, least-some}
use Rattle.conc_history_check.specs.Lets.{IsLeastTurn}
use Rattle.conc_history_check.specs.Live.{rival_noted}
use Rattle.conc_history_check.specs.Marks.{AreMarks, queue_at}
use Rattle.conc_history_check.specs.declared.marks.Marks.{Marks}
use Rattle.conc_history_check.proofs.FreeOnes.{free-none, free-not}
use Rattle.conc_history_check.proofs.Lives.{key-passes, least-of, least-slot, lives}
use Rattle.conc_history_check.proofs.Turns.{may_let-parts, ready-not_live}

-- ---- the least turn, by what it means

-- no request may be let out
pub least-turn-none : (plan : Plan) (s : State) (among : Req → Type 0) → ((q : Req) → Has plan.requests q → among q → may_let plan s q ≡ false) → IsLeastTurn plan s among None
least-turn-none plan s among none = record {
  first = λ q has in_it lets. absurd (both_ways _ (none q has in_it) lets);
  own = λ t is. cc;
}

-- the least turn of all is so of any of them
pub least-turn-all : (plan : Plan) (s : State) (among : Req → Type 0) (best : Option ℕ) → best ≡ least (turns_of (may_let plan s) plan.requests) → IsLeastTurn plan s among best
unfolding turns_of
least-turn-all plan s among best is = record {
  first = λ q has in_it lets. by q has lets (least (map (λ r. then_some (may_let plan s r) (turn r)) plan.requests)) refl;
  own = λ t e.
      let r : (x : Req) × HasLeast (may_let plan s) turn plan.requests t x = least-some (may_let plan s) turn plan.requests t (sym is ∙ e) in
      (r.0, r.1.element, r.1.passes, r.1.own);
} where
  by : (q : Req) → Has plan.requests q → IsTrue (may_let plan s q) → (o : Option ℕ) → least (map (λ r. then_some (may_let plan s r) (turn r)) plan.requests) ≡ o
      → (t : ℕ) × (best ≡ Some t) × (t ≤ turn q)
  by q has lets None none = absurd (both_ways _ (least-none (may_let plan s) turn plan.requests none q has) lets)
  by q has lets (Some t) some =
      let r : (x : Req) × HasLeast (may_let plan s) turn plan.requests t x = least-some (may_let plan s) turn plan.requests t some in
      (t, is ∙ some, r.1.first q has lets)

-- one that is the least of all is that of the list
pub least-turn-is : (plan : Plan) (s : State) (among : Req → Type 0) (best : Option ℕ) → ((q : Req) → Has plan.requests q → among q) → IsLeastTurn plan s among best
    → best ≡ least (turns_of (may_let plan s) plan.requests)
unfolding turns_of
least-turn-is plan s among best all are = by best (least (map (λ r. then_some (may_let plan s r) (turn r)) plan.requests)) refl refl where
  by : (b o : Option ℕ) → best ≡ b → least (map (λ r. then_some (may_let plan s r) (turn r)) plan.requests) ≡ o → b ≡ o
  by None None is e = refl
  by (Some t) None is e =
      let q : (x : Req) × Has plan.requests x × IsTrue (may_let plan s x) × (turn x ≡ t) = are.own t is in
      absurd (both_ways _ (least-none (may_let plan s) turn plan.requests e q.0 q.1) q.2)
  by None (Some m) is e =
      let r : (x : Req) × HasLeast (may_let plan s) turn plan.requests m x = least-some (may_let plan s) turn plan.requests m e in
      let p : (t : ℕ) × (best ≡ Some t) × (t ≤ turn r.0) = are.first r.0 r.1.element (all r.0 r.1.element) r.1.passes in
      let none : ◌≡◌ {A = Option ℕ} None (Some p.0) = sym is ∙ p.1 in
      cc
  by (Some t) (Some m) is e =
      let r : (x : Req) × HasLeast (may_let plan s) turn plan.requests m x = least-some (may_let plan s) turn plan.requests m e in
      let p : (u : ℕ) × (best ≡ Some u) × (u ≤ turn r.0) = are.first r.0 r.1.element (all r.0 r.1.element) r.1.passes in
      let q : (x : Req) × Has plan.requests x × IsTrue (may_let plan s x) × (turn x ≡ t) = are.own t is in
      let both : ◌≡◌ {A = Option ℕ} (Some t) (Some p.0) = sym is ∙ p.1 in
      let same : t ≡ p.0 = cc in
      ap (λ (n : ℕ). Some n) (omega (arith, same, p.2, r.1.own, r.1.first q.0 q.1 q.2, q.3))

-- ---- one class

module _ (plan : Plan) (classes : Classes) (are : AreClasses plan classes) (s : State) (marks : Marks) (kept : AreMarks plan classes s marks) (c : ℕ) where
  -- each that is ready has its turn in the queue, so that the least is no greater
  ready-least : (q : Req) → Has plan.requests q → class_at classes q ≡ c → is_ready plan s q ≡ true → (m : ℕ) × (least (queue_at marks.ready.items c) ≡ Some m) × (m ≤ turn q)
  ready-least q has class ready =
      least-of (queue_at marks.ready.items c) (slot_at classes q) (turn q)
      (ap (λ d. slice_get (queue_at marks.ready.items d) (slot_at classes q)) (sym class)
      ∙ (kept.all q has).ready ∙ ap (λ b. Some (then_some b (turn q))) ready)

  lets-ready : (q : Req) → may_let plan s q ≡ true → is_ready plan s q ≡ true
  lets-ready q lets = (and_parts _ (is_free plan s q) (sym (may_let-parts plan s q) ∙ lets)).0

  -- none is ready
  pub class-none : least (queue_at marks.ready.items c) ≡ None → IsLeastTurn plan s (λ q. class_at classes q ≡ c) None
  class-none none = record {
    first = λ q has class lets.
        let l = ready-least q has class (lets-ready q lets) in
        let e : ◌≡◌ {A = Option ℕ} None (Some l.0) = sym none ∙ l.1 in cc;
    own = λ t is. cc;
  }

  -- the least turn is that of a request that is ready
  pub class-first : (t : ℕ) → least (queue_at marks.ready.items c) ≡ Some t
      → (r : Req) × Has plan.requests r × (class_at classes r ≡ c) × (is_ready plan s r ≡ true) × (turn r ≡ t) × (request_at_turn plan t ≡ Some r)
  class-first t is =
      let at : (i : ℕ) × (slice_get (queue_at marks.ready.items c) i ≡ Some (Some t)) = least-slot (queue_at marks.ready.items c) t is in
      owned at.0 at.1 (kept.room.ready.own c at.0 t at.1) where
        owned : (i : ℕ) → slice_get (queue_at marks.ready.items c) i ≡ Some (Some t)
            → (r : Req) × Has plan.requests r × (class_at classes r ≡ c) × (slot_at classes r ≡ i)
            → (r : Req) × Has plan.requests r × (class_at classes r ≡ c) × (is_ready plan s r ≡ true) × (turn r ≡ t) × (request_at_turn plan t ≡ Some r)
        owned i at (r, has, class, slot) =
            let own : Some (then_some (is_ready plan s r) (turn r)) ≡ Some (Some t) =
            sym (kept.all r has).ready
            ∙ ap (λ d. slice_get (queue_at marks.ready.items d) (slot_at classes r)) class
            ∙ ap (slice_get (queue_at marks.ready.items c)) slot ∙ at in
            let p : (is_ready plan s r ≡ true) × (turn r ≡ t) = key-passes (is_ready plan s r) (turn r) t own in
            (r, has, class, p.0, p.1, ap (request_at_turn plan) (sym p.1) ∙ request_at_turn-own plan r has)

  -- that request is the one with the turn
  pub class-one : (t : ℕ) (r : Req) → least (queue_at marks.ready.items c) ≡ Some t → request_at_turn plan t ≡ Some r → Has plan.requests r × (is_ready plan s r ≡ true)
  class-one t r is at =
      let f = class-first t is in
      let one : ◌≡◌ {A = Option Req} (Some f.0) (Some r) = sym f.5 ∙ at in
      let same : f.0 ≡ r = cc in
      (subst (Has plan.requests) same f.1, ap (is_ready plan s) (sym same) ∙ f.3)

  -- it is the least where the request is free
  pub class-free : (t : ℕ) (r : Req) → least (queue_at marks.ready.items c) ≡ Some t → request_at_turn plan t ≡ Some r → is_free plan s r ≡ true
      → IsLeastTurn plan s (λ q. class_at classes q ≡ c) (Some t)
  class-free t r is at free = record {
    first = λ q has class lets.
        let l = ready-least q has class (lets-ready q lets) in
        let e : ◌≡◌ {A = Option ℕ} (Some t) (Some l.0) = sym is ∙ l.1 in
        (l.0, e, l.2);
    own = λ u e.
        let f = class-first t is in
        let one : ◌≡◌ {A = Option Req} (Some f.0) (Some r) = sym f.5 ∙ at in
        let same : f.0 ≡ r = cc in
        let number : ◌≡◌ {A = ℕ} t u = cc in
        (f.0, f.1, may_let-parts plan s f.0 ∙ and_from _ _ f.3 (ap (is_free plan s) same ∙ free), f.4 ∙ number);
  }

  -- where it is not, and kin do not count, none of the class is
  pub class-excluded : (t : ℕ) (r : Req) → least (queue_at marks.ready.items c) ≡ Some t → request_at_turn plan t ≡ Some r → is_free plan s r ≡ false
      → excludes_kin_at classes (class_at classes r) ≡ false → IsLeastTurn plan s (λ q. class_at classes q ≡ c) None
  class-excluded t r is at bound kin =
      let f = class-first t is in
      let one : ◌≡◌ {A = Option Req} (Some f.0) (Some r) = sym f.5 ∙ at in
      let same : f.0 ≡ r = cc in
      least-turn-none plan s (λ q. class_at classes q ≡ c) (λ q has class. elim (ready-or-not (is_ready plan s q)) [
        | inl ready ↦
            may_let-parts plan s q ∙ and_right (is_ready plan s q) _
            (bound-all r (subst (Has plan.requests) same f.1) bound kin q has (class ∙ sym f.2 ∙ ap (class_at classes) same) (ready-not_live plan s q ready))
        | inr not_ready ↦ may_let-parts plan s q ∙ ap (λ b. b && is_free plan s q) not_ready
      ]) where
        ready-or-not : (b : Bool) → (b ≡ true) ⊎ (b ≡ false)
        ready-or-not true = inl refl
        ready-or-not false = inr refl

        bound-all : (r : Req) → Has plan.requests r → is_free plan s r ≡ false → excludes_kin_at classes (class_at classes r) ≡ false
            → (q : Req) → Has plan.requests q → class_at classes q ≡ class_at classes r → is_live (facts_at s q) ≡ false → is_free plan s q ≡ false
        bound-all r has_r bound kin q has class idle = by (rival_noted classes marks.live.items (class_at classes r)) refl where
          by : (o : Option ℕ) → rival_noted classes marks.live.items (class_at classes r) ≡ o → is_free plan s q ≡ false
          by None e = absurd (both_ways _ bound (free-none plan classes s marks.live.items r are (lives plan classes s marks kept) has_r e))
          by (Some id) e =
              free-not plan classes s marks.live.items q id are (lives plan classes s marks kept) has idle
              (ap (rival_noted classes marks.live.items) class ∙ e) (ap (excludes_kin_at classes) class ∙ kin)

-- ---- class by class

-- one class more
pub least-turn-more : (plan : Plan) (classes : Classes) (s : State) (n : ℕ) (best own : Option ℕ) → IsLeastTurn plan s (λ q. class_at classes q < n) best
    → IsLeastTurn plan s (λ q. class_at classes q ≡ n) own → IsLeastTurn plan s (λ q. class_at classes q < n + 1) (lesser best own)
least-turn-more plan classes s n best own before here = record {
  first = λ q has below lets. elim (cases_eq (class_at classes q) n) [
    | inl same ↦ let p = here.first q has same lets in later best own p.0 (turn q) p.1 p.2
    | inr other ↦ let p = before.first q has (omega (arith, below, other)) lets in earlier best own p.0 (turn q) p.1 p.2
  ];
  own = λ t is. elim (either best own t is) [
    | inl e ↦ before.own t e
    | inr e ↦ here.own t e
  ];
} where
  earlier : (a b : Option ℕ) (u m : ℕ) → a ≡ Some u → u ≤ m → (t : ℕ) × (lesser a b ≡ Some t) × (t ≤ m)
  earlier None b u m e le = cc
  earlier (Some x) None u m e le = let own : x ≡ u = cc in (x, refl, omega (arith, own, le))
  earlier (Some x) (Some y) u m e le = let own : x ≡ u = cc in elim (cases_lt y x) [
    | inl less ↦ (y, ap (λ (t : Bool). Some (if t then y else x)) (lt-ltb y x less), omega (arith, own, le, less))
    | inr more ↦ (x, ap (λ (t : Bool). Some (if t then y else x)) (le-ltb y x more), omega (arith, own, le))
  ]

  later : (a b : Option ℕ) (u m : ℕ) → b ≡ Some u → u ≤ m → (t : ℕ) × (lesser a b ≡ Some t) × (t ≤ m)
  later None b u m e le = (u, e, le)
  later (Some x) None u m e le = cc
  later (Some x) (Some y) u m e le = let own : y ≡ u = cc in elim (cases_lt y x) [
    | inl less ↦ (y, ap (λ (t : Bool). Some (if t then y else x)) (lt-ltb y x less), omega (arith, own, le))
    | inr more ↦ (x, ap (λ (t : Bool). Some (if t then y else x)) (le-ltb y x more), omega (arith, own, le, more))
  ]

  either : (a b : Option ℕ) (t : ℕ) → lesser a b ≡ Some t → (a ≡ Some t) ⊎ (b ≡ Some t)
  either None b t e = inr e
  either (Some x) None t e = inl e
  either (Some x) (Some y) t e = elim (cases_lt y x) [
    | inl less ↦ inr (ap (λ (c : Bool). Some (if c then y else x)) (sym (lt-ltb y x less)) ∙ e)
    | inr more ↦ inl (ap (λ (c : Bool). Some (if c then y else x)) (sym (le-ltb y x more)) ∙ e)
  ]

-- of no class
pub least-turn-start : (plan : Plan) (classes : Classes) (s : State) → IsLeastTurn plan s (λ q. class_at classes q < 0) None
least-turn-start plan classes s = record {
  first = λ q has below lets. absurd (omega (arith, below));
  own = λ t is. cc;
}
