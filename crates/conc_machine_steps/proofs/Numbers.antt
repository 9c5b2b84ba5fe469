-- Slots of requests: where the tests of one or two requests change, one or two slots are written.
use Rattle.std.proofs.Common.{◌≡◌, ℕ, ◌+◌, ◌-◌, ◌<◌, ◌==◌, Bool, true, false, if◌then◌else◌, List, length, Option, Some, eqb, refl, sym, ◌∙◌, ap, arith}
use Rattle.std.specs.Prelude.{slice_get}
use Rattle.std.specs.Bool.{then_some}
use Rattle.std.proofs.lemmas.Bool.{eq-eqb, ne_eqb}
use Rattle.std.proofs.lemmas.List.{length-map, length-set}
use Rattle.std.proofs.lemmas.Option.{slice_get_within}
use Rattle.conc_types.specs.declared.plan.Plan.{Plan}
use Rattle.conc_types.specs.declared.plan.Req.{Req}
use Rattle.conc_base_law.specs.Words.{Has}
use Rattle.conc_event_queue.specs.Least.{vacant}
use Rattle.conc_event_queue.specs.Turns.{numbers_of}
use Rattle.conc_event_queue.proofs.Maps.{map-vacant, numbers_of-written, place_of_request}
use Rattle.conc_machine_steps.specs.Slots.{HasSlot, refreshed}

-- where no request passes, all slots are vacant
pub numbers_of-none : (test : Req → Bool) (rs : List Req) → ((r : Req) → Has rs r → test r ≡ false)
    → vacant (length rs) ≡ numbers_of test rs
unfolding numbers_of
numbers_of-none test rs none =
    sym (map-vacant (λ r. then_some (test r) r.number.number) rs (λ r has. ap (λ b. then_some b r.number.number) (none r has)))

-- where one request's test changes, its slot is written
pub numbers_of-one : (plan : Plan) (f g : Req → Bool) (r : Req) → Has plan.requests r
    → ((q : Req) → Has plan.requests q → (q.number.number ≡ r.number.number → ⊥) → g q ≡ f q)
    → numbers_of g plan.requests ≡ refreshed (numbers_of f plan.requests) r (g r)
unfolding refreshed
numbers_of-one plan f g r has same =
    let p : (k : ℕ) × (slice_get plan.requests k ≡ Some r) × (r.number.number ≡ k + 1) = place_of_request plan r has in
    let at : r.number.number - 1 ≡ p.0 = omega (arith, p.2) in
    rw at
    (numbers_of-written plan f g p.0 r p.1 (λ q h ne. same q h (λ (e : q.number.number ≡ r.number.number). ne (e ∙ p.2))))

-- each request of the plan has a slot
pub HasSlot-numbers_of : (plan : Plan) (test : Req → Bool) (slots : List (Option ℕ)) → slots ≡ numbers_of test plan.requests → (r : Req) → Has plan.requests r → HasSlot slots r
unfolding numbers_of
HasSlot-numbers_of plan test slots are r has =
    let p : (k : ℕ) × (slice_get plan.requests k ≡ Some r) × (r.number.number ≡ k + 1) = place_of_request plan r has in
    let within : p.0 < length plan.requests = slice_get_within plan.requests p.0 r p.1 in
    let all : length slots ≡ length plan.requests = ap length are ∙ length-map plan.requests (λ q. then_some (test q) q.number.number) in
    (omega (arith, p.2), omega (arith, p.2, within, all))

-- also after one is written
pub HasSlot-refreshed : (slots : List (Option ℕ)) (q : Req) (passes : Bool) (r : Req) → HasSlot slots r → HasSlot (refreshed slots q passes) r
unfolding refreshed
HasSlot-refreshed slots q passes r has = (has.0, omega (arith, has.1, length-set slots (q.number.number - 1) (then_some passes q.number.number)))

-- the test of one request is the later one
abbrev between : (Req → Bool) → (Req → Bool) → Req → Req → Bool
between f g r q = if q.number.number == r.number.number then g q else f q

between-own : (f g : Req → Bool) (r : Req) → between f g r r ≡ g r
between-own f g r = rw (eq-eqb r.number.number r.number.number refl) refl

between-first : (f g : Req → Bool) (r q : Req) → (q.number.number ≡ r.number.number → ⊥) → between f g r q ≡ f q
between-first f g r q ne = rw (ne_eqb q.number.number r.number.number ne) refl

between-later : (f g : Req → Bool) (r q : Req) → ((q.number.number ≡ r.number.number → ⊥) → g q ≡ f q) → g q ≡ between f g r q
between-later f g r q same = by (eqb q.number.number r.number.number) refl where
  by : (b : Bool) → eqb q.number.number r.number.number ≡ b → g q ≡ (if b then g q else f q)
  by true e = refl
  by false e = same (λ (n : q.number.number ≡ r.number.number). let y : true ≡ false = sym (eq-eqb _ _ n) ∙ e in cc)

-- where two requests' tests change, both slots are written
pub numbers_of-two : (plan : Plan) (f g : Req → Bool) (r t : Req) → Has plan.requests r → Has plan.requests t
    → ((q : Req) → Has plan.requests q → (q.number.number ≡ r.number.number → ⊥) → (q.number.number ≡ t.number.number → ⊥) → g q ≡ f q)
    → numbers_of g plan.requests ≡ refreshed (refreshed (numbers_of f plan.requests) r (g r)) t (g t)
numbers_of-two plan f g r t has_r has_t same =
    let one : numbers_of (between f g r) plan.requests ≡ refreshed (numbers_of f plan.requests) r (between f g r r) =
    numbers_of-one plan f (between f g r) r has_r (λ q has ne. between-first f g r q ne) in
    let two : numbers_of g plan.requests ≡ refreshed (numbers_of (between f g r) plan.requests) t (g t) =
    numbers_of-one plan (between f g r) g t has_t (λ q has ne. between-later f g r q (λ other. same q has other ne)) in
    two ∙ ap (λ l. refreshed l t (g t)) (one ∙ ap (refreshed (numbers_of f plan.requests) r) (between-own f g r))
