-- Requests of which something can depend on another one.
use Rattle.std.proofs.Common.{◌≡◌, ◌⊎◌, ℕ, zero, suc, Bool, true, false, ◌&&◌, ◌||◌, ◌==◌, List, [], ◌∷◌, Some, refl, sym, ◌∙◌, ap, inl, inr}
use Rattle.std.specs.Prelude.{IsTrue, slice_get}
use Rattle.std.proofs.lemmas.Bool.{and_parts, cases_Bool, eq-eqb, eqb-true, or_left}
use Rattle.conc_types.specs.declared.event.RequestId.{RequestId}
use Rattle.conc_types.specs.declared.plan.Plan.{Plan}
use Rattle.conc_types.specs.declared.plan.Req.{Req}
use Rattle.conc_types.specs.Plans.{request}
use Rattle.conc_types.specs.Words.{some_and}
use Rattle.conc_base_law.specs.Plans.{is_member, parent}
use Rattle.conc_base_law.specs.Words.{Has, id_eq}
use Rattle.conc_base_law.proofs.Numbering.{found, numbered_plan}
use Rattle.conc_base_law.proofs.Options.{and_then-some, some_and-some}
use Rattle.conc_event_reach.specs.Spans.{AreSpans, is_within, span_of_members}
use Rattle.conc_event_reach.specs.declared.span.Span.{Span}
use Rattle.conc_event_reach.specs.declared.spans.Spans.{Spans}
use Rattle.conc_event_queue.proofs.Maps.{place_of_request}
use Rattle.conc_history_check.specs.Marks.{is_near}

-- ---- who is near

second-of : (a b c : Bool) → b ≡ true → (a || (b || c)) ≡ true
second-of true b c h = refl
second-of false true c h = refl
second-of false false c h = cc

third-of : (a b c : Bool) → c ≡ true → (a || (b || c)) ≡ true
third-of true b c h = refl
third-of false true c h = refl
third-of false false c h = h

pub near-self : (r : Req) → is_near r r ≡ true
unfolding is_near
near-self r = or_left _ _ (eq-eqb r.number.number r.number.number refl)

-- a request to its members
pub near-member : (x q : Req) (stage : ℕ) → is_member q.number stage x ≡ true → is_near x q ≡ true
unfolding is_near is_member
near-member x q stage member =
    third-of (id_eq x.number q.number) (some_and (id_eq x.number) q.parent) (some_and (id_eq q.number) x.parent)
    (and_parts (some_and (id_eq q.number) x.parent) (x.stage == stage) member).0

-- and the set of which it is one to the request
pub near-parent : (plan : Plan) (q set : Req) → parent plan q ≡ Some set → is_near set q ≡ true
unfolding is_near parent
near-parent plan q set is =
    let p : (id : RequestId) × (q.parent ≡ Some id) × (request plan id ≡ Some set) = and_then-some (request plan) q.parent set is in
    let number : set.number.number ≡ p.0.number = (found plan p.0 set p.2).0 in
    second-of (id_eq set.number q.number) (some_and (id_eq set.number) q.parent) (some_and (id_eq q.number) set.parent)
    (ap (some_and (id_eq set.number)) p.1 ∙ eq-eqb set.number.number p.0.number number)

either-way : (a b c : Bool) → (a || (b || c)) ≡ true → (a ≡ true) ⊎ (b ≡ true) ⊎ (c ≡ true)
either-way true b c h = inl refl
either-way false true c h = inr (inl refl)
either-way false false true h = inr (inr refl)
either-way false false false h = cc

-- one that is near is the request, one of its members, or its set
pub near-parts : (r q : Req) → is_near r q ≡ true → (q.number.number ≡ r.number.number) ⊎ (q.parent ≡ Some r.number) ⊎ (some_and (id_eq q.number) r.parent ≡ true)
unfolding is_near
near-parts r q near = by (either-way (id_eq r.number q.number) (some_and (id_eq r.number) q.parent) (some_and (id_eq q.number) r.parent) near) where
  member : some_and (id_eq r.number) q.parent ≡ true → q.parent ≡ Some r.number
  member h =
      let p : (id : RequestId) × (q.parent ≡ Some id) × (id_eq r.number id ≡ true) = some_and-some (id_eq r.number) q.parent h in
      p.1 ∙ ap (λ n. Some (record { number = n })) (sym (eqb-true r.number.number p.0.number p.2))

  by : (id_eq r.number q.number ≡ true) ⊎ (some_and (id_eq r.number) q.parent ≡ true) ⊎ (some_and (id_eq q.number) r.parent ≡ true)
      → (q.number.number ≡ r.number.number) ⊎ (q.parent ≡ Some r.number) ⊎ (some_and (id_eq q.number) r.parent ≡ true)
  by (inl same) = inl (sym (eqb-true r.number.number q.number.number same))
  by (inr (inl h)) = inr (inl (member h))
  by (inr (inr h)) = inr (inr h)

-- ---- where it is found

-- a member stands where the members do
pub member-within : (plan : Plan) (spans : Spans) (r q : Req) → AreSpans plan spans → Has plan.requests q → q.parent ≡ Some r.number
    → (i : ℕ) × (slice_get plan.requests i ≡ Some q) × IsTrue (is_within i (span_of_members spans r.number))
member-within plan spans r q are has is =
    let p : (k : ℕ) × (slice_get plan.requests k ≡ Some q) × _ = place_of_request plan q has in
    (p.0, p.1, are.members p.0 q r.number p.1 is)

-- the set of which r is a member is its parent
pub set-parent : (plan : Plan) (r q : Req) → Has plan.requests q → some_and (id_eq q.number) r.parent ≡ true → parent plan r ≡ Some q
unfolding parent request
set-parent plan r q has h =
    let p : (id : RequestId) × (r.parent ≡ Some id) × (id_eq q.number id ≡ true) = some_and-some (id_eq q.number) r.parent h in
    rw (p.1, ← eqb-true q.number.number p.0.number p.2) (numbered_plan plan q has)

pub parent-there : (plan : Plan) (r set : Req) → parent plan r ≡ Some set → Has plan.requests set
unfolding parent
parent-there plan r set member =
    let p : (id : RequestId) × (r.parent ≡ Some id) × (request plan id ≡ Some set) = and_then-some (request plan) r.parent set member in
    (found plan p.0 set p.2).1

-- ---- one of a span, or none

some-or-none : {T : Type 0} (p : ℕ → T → Bool) (xs : List T)
    → ((i : ℕ) × (x : T) × (slice_get xs i ≡ Some x) × (p i x ≡ true)) ⊎ ((i : ℕ) (x : T) → slice_get xs i ≡ Some x → p i x ≡ false)
some-or-none p [] = inr (λ i x at. cc)
some-or-none {T} p (x ∷ xs) = elim (cases_Bool (p 0 x)) [
  | inl here ↦ inl (0, x, refl, here)
  | inr miss ↦ later miss (some-or-none (λ i y. p (suc i) y) xs)
] where
  later : p 0 x ≡ false → ((i : ℕ) × (y : T) × (slice_get xs i ≡ Some y) × (p (suc i) y ≡ true)) ⊎ ((i : ℕ) (y : T) → slice_get xs i ≡ Some y → p (suc i) y ≡ false)
      → ((i : ℕ) × (y : T) × (slice_get (x ∷ xs) i ≡ Some y) × (p i y ≡ true)) ⊎ ((i : ℕ) (y : T) → slice_get (x ∷ xs) i ≡ Some y → p i y ≡ false)
  later miss (inl (i, y, at, is)) = inl (suc i, y, at, is)
  later miss (inr none) = inr each where
    each : (i : ℕ) (y : T) → slice_get (x ∷ xs) i ≡ Some y → p i y ≡ false
    each zero y at = let same : x ≡ y = cc in ap (p 0) (sym same) ∙ miss
    each (suc i) y at = none i y at

abbrev pub IsNearSome : Plan → Span → Req → Type 0
IsNearSome plan span q = (i : ℕ) × (r : Req) × (slice_get plan.requests i ≡ Some r) × (is_within i span ≡ true) × (is_near r q ≡ true)

abbrev pub IsNearNone : Plan → Span → Req → Type 0
IsNearNone plan span q = (i : ℕ) (r : Req) → slice_get plan.requests i ≡ Some r → is_near r q ≡ true → is_within i span ≡ false

pub near-or-not : (plan : Plan) (span : Span) (q : Req) → IsNearSome plan span q ⊎ IsNearNone plan span q
near-or-not plan span q = by (some-or-none (λ i r. is_within i span && is_near r q) plan.requests) where
  off : (a b : Bool) → (a && b) ≡ false → b ≡ true → a ≡ false
  off false b h t = refl
  off true true h t = cc
  off true false h t = cc

  by : ((i : ℕ) × (r : Req) × (slice_get plan.requests i ≡ Some r) × ((is_within i span && is_near r q) ≡ true))
      ⊎ ((i : ℕ) (r : Req) → slice_get plan.requests i ≡ Some r → (is_within i span && is_near r q) ≡ false)
      → IsNearSome plan span q ⊎ IsNearNone plan span q
  by (inl (i, r, at, both)) = let p = and_parts (is_within i span) (is_near r q) both in inl (i, r, at, p.0, p.1)
  by (inr none) = inr (λ i r at near. off (is_within i span) (is_near r q) (none i r at) near)
