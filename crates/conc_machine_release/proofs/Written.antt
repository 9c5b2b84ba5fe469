-- The keys after a write, and after another moment.
use Rattle.std.proofs.Common.{◌≡◌, ℕ, ◌+◌, ◌-◌, ◌<◌, ◌≤◌, Bool, true, false, not, ◌&&◌, ◌==◌, List, length, take, drop, Option, None, Some, refl, sym, ◌∙◌, ap, inl, inr, arith}
use Rattle.std.specs.Prelude.{slice_get, slice_range, unwrap_or}
use Rattle.std.proofs.lemmas.Bool.{and_parts, cases_eq, eqb-true, leb-true, ltb-true}
use Rattle.std.proofs.lemmas.Option.{slice_get_within}
use Rattle.conc_types.specs.declared.event.RequestId.{RequestId}
use Rattle.conc_types.specs.declared.facts.Facts.{Facts}
use Rattle.conc_types.specs.declared.facts.State.{State}
use Rattle.conc_types.specs.declared.plan.Plan.{Plan}
use Rattle.conc_types.specs.declared.plan.Req.{Req}
use Rattle.conc_types.specs.Plans.{request}
use Rattle.conc_types.specs.Stages.{has_stage}
use Rattle.conc_types.specs.Words.{numbered, some_and}
use Rattle.conc_base_law.specs.Next.{can_run, is_ready}
use Rattle.conc_base_law.specs.Plans.{parent}
use Rattle.conc_base_law.specs.State.{facts_at, has_come, is_completed, is_live, is_waiting, no_facts}
use Rattle.conc_base_law.specs.Words.{Has}
use Rattle.conc_base_law.proofs.Numbering.{found}
use Rattle.conc_base_law.proofs.Options.{and_then-some}
use Rattle.conc_event_queue.specs.Written.{IsWritten}
use Rattle.conc_event_queue.proofs.Maps.{facts_at-before, facts_at-written, place_of_request, request_at_place}
use Rattle.conc_event_classes.specs.Classes.{AreClasses}
use Rattle.conc_event_classes.specs.declared.classes.Classes.{Classes}
use Rattle.conc_event_reach.specs.Spans.{AreSpans, span_of_members}
use Rattle.conc_event_reach.specs.declared.span.Span.{Span}
use Rattle.conc_event_reach.specs.declared.spans.Spans.{Spans}
use Rattle.conc_machine_release.specs.Refresh.{queues_of, refreshed_all, refreshed_at}
use Rattle.conc_machine_release.specs.Renewal.{renewed, renewed_within}
use Rattle.conc_machine_release.proofs.Queues.{at_number, at_number-other, at_number-own, queues-same, refreshed_all-is, refreshed_at-is}

-- ---- readiness

abbrev ready_by : Plan → Req → Facts → Bool → Bool → Bool
ready_by plan q facts come waits =
    facts.entered && (not (is_live facts) && (not (is_completed facts) && (not facts.held && (come && (can_run plan q && not waits)))))

-- a request is as ready as before where its facts, the coming of its start and its waiting are the same
pub ready-same : (plan : Plan) (before after : State) (q : Req) → facts_at after q ≡ facts_at before q → has_come after.time q.start ≡ has_come before.time q.start
    → is_waiting plan after q ≡ is_waiting plan before q → is_ready plan after q ≡ is_ready plan before q
unfolding is_ready
ready-same plan before after q f t w =
    ap (λ x. ready_by plan q x (has_come after.time q.start) (is_waiting plan after q)) f
    ∙ ap (λ x. ready_by plan q (facts_at before q) x (is_waiting plan after q)) t
    ∙ ap (λ x. ready_by plan q (facts_at before q) (has_come before.time q.start) x) w

-- a member waits as before where the begun stages of its set are the same
pub waiting-same : (plan : Plan) (before after : State) (q : Req)
    → ((set : Req) → parent plan q ≡ Some set → (facts_at after set).begun.bits ≡ (facts_at before set).begun.bits)
    → is_waiting plan after q ≡ is_waiting plan before q
unfolding is_waiting
waiting-same plan before after q h = by (parent plan q) refl where
  by : (o : Option Req) → parent plan q ≡ o
      → some_and (λ set. not (has_stage (facts_at after set).begun.bits q.stage)) o ≡ some_and (λ set. not (has_stage (facts_at before set).begun.bits q.stage)) o
  by None e = refl
  by (Some set) e = ap (λ bits. not (has_stage bits q.stage)) (h set e)

-- requests of one number have one standing
facts_at-number : (s : State) (x y : Req) → x.number.number ≡ y.number.number → facts_at s x ≡ facts_at s y
unfolding facts_at
facts_at-number s x y e = ap (λ n. unwrap_or (numbered s.facts n) no_facts) e

-- a member names its set
parent-named : (plan : Plan) (q set : Req) → parent plan q ≡ Some set → (p : RequestId) × (q.parent ≡ Some p) × (set.number.number ≡ p.number)
unfolding parent
parent-named plan q set h =
    let p : (p : RequestId) × (q.parent ≡ Some p) × (request plan p ≡ Some set) = and_then-some (request plan) q.parent set h in
    (p.0, p.1, (found plan p.0 set p.2).0)

-- ---- a write

-- the request that is written is there
pub written-within : (plan : Plan) (before s : State) (i : ℕ) (old : Facts) → IsWritten plan before s i old → i < length plan.requests
written-within plan before s i old w = omega (arith, slice_get_within before.facts i old w.was, w.all)

-- where the begun stages of the request that is written are the same, all begun stages are
begun-same : (plan : Plan) (before s : State) (i : ℕ) (old : Facts) → IsWritten plan before s i old → (r : Req) → slice_get plan.requests i ≡ Some r
    → (facts_at s r).begun.bits ≡ old.begun.bits → (set : Req) → (facts_at s set).begun.bits ≡ (facts_at before set).begun.bits
begun-same plan before s i old w r at e set = elim (cases_eq set.number.number (i + 1)) [
  | inr ne ↦ ap (λ f. f.begun.bits) (facts_at-written plan before s i old w set ne)
  | inl n ↦
      let m : (r.number.number ≡ i + 1) × Has plan.requests r = request_at_place plan i r at in
      let one : set.number.number ≡ r.number.number = omega (arith, n, m.0) in
      ap (λ f. f.begun.bits) (facts_at-number s set r one) ∙ e
      ∙ ap (λ f. f.begun.bits) (sym (facts_at-before plan before s i old w r at) ∙ sym (facts_at-number before set r one))
]

-- outside the span of its members no request has the one that is written as its set
pub parent-outside : (plan : Plan) (spans : Spans) → AreSpans plan spans → (r q set : Req) → Has plan.requests q → parent plan q ≡ Some set
    → (((span_of_members spans r.number).from < q.number.number) × (q.number.number ≤ (span_of_members spans r.number).from + ((span_of_members spans r.number).to - (span_of_members spans r.number).from)) → ⊥)
    → set.number.number ≡ r.number.number → ⊥
parent-outside plan spans are r q set has h out e =
    let p : (p : RequestId) × (q.parent ≡ Some p) × (set.number.number ≡ p.number) = parent-named plan q set h in
    let same : p.0 ≡ r.number = ap (λ n. record { number = n }) (sym p.2 ∙ e) in
    let k : (k : ℕ) × (slice_get plan.requests k ≡ Some q) × (q.number.number ≡ k + 1) = place_of_request plan q has in
    let w = and_parts _ _ (are.members k.0 q r.number k.1 (p.1 ∙ ap (λ z. Some z) same)) in
    let from : (span_of_members spans r.number).from ≤ k.0 = leb-true _ _ w.0 in
    let to : k.0 < (span_of_members spans r.number).to = ltb-true _ _ w.1 in
    out (omega (arith, from, k.2), omega (arith, from, to, k.2))

-- the keys after the write are those of the state
pub renewed-is : (plan : Plan) (classes : Classes) (spans : Spans) → AreClasses plan classes → AreSpans plan spans
    → (before s : State) (i : ℕ) (old : Facts) → IsWritten plan before s i old → (r : Req) → slice_get plan.requests i ≡ Some r
    → (queues : List (List (Option ℕ))) → queues ≡ queues_of plan classes (is_ready plan before)
    → renewed plan classes spans s old queues r ≡ queues_of plan classes (is_ready plan s)
renewed-is plan classes spans are stand before s i old w r at queues is = within ((facts_at s r).begun.bits == old.begun.bits) refl where
  place : (r.number.number ≡ i + 1) × Has plan.requests r
  place = request_at_place plan i r at

  span : Span
  span = span_of_members spans r.number

  mixed : Req → Bool
  mixed = at_number r.number.number (is_ready plan s) (is_ready plan before)

  first : refreshed_at plan classes s queues r ≡ queues_of plan classes mixed
  first = ap (λ q. refreshed_at plan classes s q r) is ∙ refreshed_at-is plan classes s are r place.1 (is_ready plan before)

  others : (q : Req) → is_waiting plan s q ≡ is_waiting plan before q → is_ready plan s q ≡ mixed q
  others q waits = elim (cases_eq q.number.number r.number.number) [
    | inl n ↦ sym (at_number-own r.number.number (is_ready plan s) (is_ready plan before) q n)
    | inr ne ↦ ready-same plan before s q (facts_at-written plan before s i old w q (λ (n : q.number.number ≡ i + 1). ne (n ∙ sym place.0))) (ap (λ t. has_come t q.start) w.time) waits
        ∙ sym (at_number-other r.number.number (is_ready plan s) (is_ready plan before) q ne)
  ]

  within : (same : Bool) → ((facts_at s r).begun.bits == old.begun.bits) ≡ same
      → renewed_within plan classes s span same (refreshed_at plan classes s queues r) ≡ queues_of plan classes (is_ready plan s)
  within true t =
      first
      ∙ queues-same plan classes mixed (is_ready plan s)
      (λ q has. sym (others q (waiting-same plan before s q (λ set p. begun-same plan before s i old w r at (eqb-true _ _ t) set))))
  within false f =
      ap (refreshed_all plan classes s (slice_range plan.requests span.from span.to)) first
      ∙ refreshed_all-is plan classes s are (span.to - span.from) span.from mixed (is_ready plan s)
      (λ k (less : k < span.to - span.from). omega (arith, stand.members_inside r.number))
      (λ q has more most. refl)
      (λ q has out. others q (waiting-same plan before s q (λ set p. ap (λ f. f.begun.bits)
      (facts_at-written plan before s i old w set (λ (n : set.number.number ≡ i + 1). parent-outside plan spans stand r q set has p out (omega (arith, n, place.0)))))))

-- ---- all of them

-- once all keys are renewed, they are those of the state
pub all-renewed : (plan : Plan) (classes : Classes) → AreClasses plan classes → (s : State) (f : Req → Bool) (n : ℕ) → n ≡ length plan.requests
    → (queues : List (List (Option ℕ))) → queues ≡ queues_of plan classes f → refreshed_all plan classes s (slice_range plan.requests 0 n) queues ≡ queues_of plan classes (is_ready plan s)
all-renewed plan classes are s f n all queues is =
    ap (refreshed_all plan classes s (slice_range plan.requests 0 n)) is
    ∙ ap (λ m. refreshed_all plan classes s (take m (drop 0 plan.requests)) (queues_of plan classes f)) whole
    ∙ refreshed_all-is plan classes s are n 0 f (is_ready plan s) (λ k (less : k < n). omega (arith, all)) (λ q has more most. refl) (λ q has out.
    let k : (k : ℕ) × (slice_get plan.requests k ≡ Some q) × (q.number.number ≡ k + 1) = place_of_request plan q has in
    let inside : k.0 < length plan.requests = slice_get_within plan.requests k.0 q k.1 in
    absurd (out (omega (arith, k.2), omega (arith, k.2, inside, all))))
  where
    whole : n - 0 ≡ n
    whole = omega arith
