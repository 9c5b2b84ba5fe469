-- Turns and numbers as keys: the least one finds the first request.
use Rattle.std.proofs.Common.{◌≡◌, ℕ, zero, suc, ◌+◌, ◌*◌, ◌%◌, ◌<◌, ◌≤◌, Bool, true, false, ◌&&◌, ◌||◌, ◌==◌, nat_lt, List, [], ◌∷◌, Option, None, Some, refl, sym, ◌∙◌, ap, inl, inr, arith}
use Rattle.std.specs.Prelude.{slice_get}
use Rattle.std.specs.List.{find}
use Rattle.std.specs.Option.{option_and_then}
use Rattle.std.proofs.lemmas.Bool.{and_parts, both_ways, cases_Bool, le-ltb}
use Rattle.std.proofs.lemmas.Bool.Decides.{nat_tests}
use Rattle.conc_types.specs.declared.plan.Plan.{Plan}
use Rattle.conc_types.specs.declared.plan.Req.{Req}
use Rattle.conc_types.specs.Plans.{request}
use Rattle.conc_base_law.specs.Plans.{precedes}
use Rattle.conc_base_law.specs.Words.{first_by, Has}
use Rattle.conc_base_law.proofs.FirstBy.{find-found, find-some, first_by-is, IsConnected, precedes-same}
use Rattle.conc_base_law.proofs.Numbering.{numbered_plan}
use Rattle.conc_event_queue.specs.Least.{least}
use Rattle.conc_event_queue.specs.Turns.{numbers_of, request_at_turn, request_numbered, turn, turns_of}
use Rattle.conc_event_queue.proofs.LeastOf.{HasLeast, least-none, least-some}
use Rattle.conc_event_queue.proofs.Maps.{number_few, place_of_request, request_at_place}

-- ---- turns

-- three digits, compared from the first on, are compared as one number
digits : (p s n q t m : ℕ) → s < 549755813888 → t < 549755813888 → n < 32768 → m < 32768
    → (nat_lt p q || (p == q && (nat_lt s t || (s == t && nat_lt n m))))
    ≡ nat_lt ((p * 549755813888 + s) * 32768 + n) ((q * 549755813888 + t) * 32768 + m)
digits p s n q t m hs ht hn hm = grind (arith, nat_tests)

-- precedence is the order of the turns
pub precedes-turn : (plan : Plan) (x y : Req) → Has plan.requests x → Has plan.requests y → precedes x y ≡ nat_lt (turn x) (turn y)
unfolding precedes turn
precedes-turn plan x y hx hy =
    let fx : x.number.number ≤ 16384 = number_few plan x hx in
    let fy : y.number.number ≤ 16384 = number_few plan y hy in
    digits x.priority x.start.seconds x.number.number y.priority y.start.seconds y.number.number
    (omega (arith, x.start.civil)) (omega (arith, y.start.civil)) (omega arith) (omega arith)

-- the last digit of a turn is the number
turn-number : (plan : Plan) (r : Req) → Has plan.requests r → turn r % 32768 ≡ r.number.number
unfolding turn
turn-number plan r has = let few : r.number.number ≤ 16384 = number_few plan r has in omega arith

-- a request is found by its turn
pub request_at_turn-own : (plan : Plan) (r : Req) → Has plan.requests r → request_at_turn plan (turn r) ≡ Some r
unfolding request_at_turn
request_at_turn-own plan r has = ap (λ n. request plan (record { number = n })) (turn-number plan r has) ∙ numbered_plan plan r has

-- of two requests of a plan one precedes the other
pub precedes-connected : (plan : Plan) → IsConnected precedes plan.requests
precedes-connected plan = record {
  same = λ x y hx hy h k.
      let e : x.number ≡ y.number = ap (λ n. record { number = n }) (precedes-same x y h k) in
      let p : Some x ≡ Some y = sym (numbered_plan plan x hx) ∙ ap (request plan) e ∙ numbered_plan plan y hy in
      cc;
}

-- the first request in precedence that passes is the one with the least turn
pub first-least : (plan : Plan) (test : Req → Bool)
    → first_by precedes test plan.requests ≡ option_and_then (request_at_turn plan) (least (turns_of test plan.requests))
unfolding turns_of
first-least plan test = by (least (turns_of test plan.requests)) refl where
  none : (o : Option Req) → first_by precedes test plan.requests ≡ o → ((y : Req) → Has plan.requests y → test y ≡ false) → o ≡ None
  none None is h = refl
  none (Some y) is h =
      let p : (_ ≡ true) × Has plan.requests y = find-some _ plan.requests y is in
      absurd (both_ways _ (h y p.1) (and_parts (test y) _ p.0).0)

  by : (o : Option ℕ) → least (turns_of test plan.requests) ≡ o → first_by precedes test plan.requests ≡ option_and_then (request_at_turn plan) o
  by None is = none _ refl (least-none test turn plan.requests is)
  by (Some k) is =
      let r : (x : Req) × HasLeast test turn plan.requests k x = least-some test turn plan.requests k is in
      let x : Req = r.0 in
      first_by-is precedes test plan.requests x (precedes-connected plan) (record {
        element = r.1.element;
        passes = r.1.passes;
        first = λ y has t. precedes-turn plan y x has r.1.element ∙ le-ltb (turn y) (turn x) (omega (arith, r.1.own, r.1.first y has t));
      })
      ∙ sym (request_at_turn-own plan x r.1.element) ∙ ap (request_at_turn plan) r.1.own

-- ---- numbers

-- a search in order finds the least place
find-place : {T : Type 0} (test : T → Bool) (xs : List T) (x : T) → find test xs ≡ Some x
    → (k : ℕ) × (slice_get xs k ≡ Some x) × ((j : ℕ) (y : T) → slice_get xs j ≡ Some y → test y ≡ true → k ≤ j)
find-place test [] x h = cc
find-place {T} test (z ∷ zs) x h = elim (cases_Bool (test z)) [
  | inl hit ↦ let p : Some z ≡ Some x = rw hit at h in (0, p, λ j y at t. omega arith)
  | inr miss ↦
      let later : find test zs ≡ Some x = rw miss at h in
      let r : (k : ℕ) × (slice_get zs k ≡ Some x) × ((j : ℕ) (y : T) → slice_get zs j ≡ Some y → test y ≡ true → k ≤ j) = find-place test zs x later in
      (suc r.0, r.1, beyond r.0 miss r.2)
] where
  beyond : (k : ℕ) → test z ≡ false → ((j : ℕ) (y : T) → slice_get zs j ≡ Some y → test y ≡ true → k ≤ j)
      → (j : ℕ) (y : T) → slice_get (z ∷ zs) j ≡ Some y → test y ≡ true → suc k ≤ j
  beyond k miss h zero y at t = let e : z ≡ y = cc in absurd (both_ways _ miss (ap test e ∙ t))
  beyond k miss h (suc j) y at t = let p : k ≤ j = h j y at t in omega arith

-- a search in order finds the one with the least number
pub find-least : (plan : Plan) (test : Req → Bool)
    → find test plan.requests ≡ option_and_then (request_numbered plan) (least (numbers_of test plan.requests))
unfolding numbers_of request_numbered
find-least plan test = by (find test plan.requests) refl (least (numbers_of test plan.requests)) refl where
  by : (o : Option Req) → find test plan.requests ≡ o → (l : Option ℕ) → least (numbers_of test plan.requests) ≡ l
      → o ≡ option_and_then (request_numbered plan) l
  by None is None least_is = refl
  by None is (Some k) least_is =
      let r : (x : Req) × HasLeast test (λ q. q.number.number) plan.requests k x = least-some test (λ q. q.number.number) plan.requests k least_is in
      let f : (y : Req) × (find test plan.requests ≡ Some y) = find-found test plan.requests r.0 r.1.element r.1.passes in
      absurd (cc (is, f.1))
  by (Some x) is None least_is =
      let p : (test x ≡ true) × Has plan.requests x = find-some test plan.requests x is in
      absurd (both_ways _ (least-none test (λ q. q.number.number) plan.requests least_is x p.1) p.0)
  by (Some x) is (Some k) least_is =
      let p : (test x ≡ true) × Has plan.requests x = find-some test plan.requests x is in
      let r : (y : Req) × HasLeast test (λ q. q.number.number) plan.requests k y = least-some test (λ q. q.number.number) plan.requests k least_is in
      let f : (i : ℕ) × (slice_get plan.requests i ≡ Some x) × ((j : ℕ) (y : Req) → slice_get plan.requests j ≡ Some y → test y ≡ true → i ≤ j) =
      find-place test plan.requests x is in
      let a : (i : ℕ) × (slice_get plan.requests i ≡ Some r.0) × (r.0.number.number ≡ i + 1) = place_of_request plan r.0 r.1.element in
      let n : x.number.number ≡ f.0 + 1 = (request_at_place plan f.0 x f.1).0 in
      let same : x.number.number ≡ k = omega (arith, n, a.2, f.2 a.0 r.0 a.1 r.1.passes, r.1.own, r.1.first x p.1 p.0) in
      sym (numbered_plan plan x p.1) ∙ ap (λ m. request plan (record { number = m })) same
