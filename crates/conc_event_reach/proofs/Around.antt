-- Spans around the requests that pass a test.
use Rattle.std.proofs.Common.{◌≡◌, ℕ, ◌+◌, ◌<◌, ◌≤◌, Bool, true, false, ◌||◌, Some, length, refl, ◌∙◌, arith, inl, inr}
use Rattle.std.specs.Prelude.{◌==◌, IsTrue, slice_get}
use Rattle.std.proofs.lemmas.Bool.{both_ways, eqb-true, or_cases}
use Rattle.std.proofs.lemmas.Option.{slice_get_within}
use Rattle.conc_types.specs.declared.event.Event.TheVariants as event
use Rattle.conc_types.specs.declared.event.RequestId.{RequestId}
use Rattle.conc_types.specs.declared.plan.Plan.{Plan}
use Rattle.conc_types.specs.declared.plan.Req.{Req}
use Rattle.conc_types.specs.Plans.{request}
use Rattle.conc_types.specs.Words.{some_and}
use Rattle.conc_base_law.specs.Kinds.{act_of}
use Rattle.conc_base_law.specs.Words.{id_eq}
use Rattle.conc_base_law.proofs.Numbering.{found, numbered-at}
use Rattle.conc_base_law.proofs.Options.{some_and-some}
use Rattle.conc_event_reach.specs.Reach.{IsAround, IsCover, is_about, is_acted_on, is_request}
use Rattle.conc_event_reach.specs.Spans.{AreSpans, span_of_command, span_of_members}
use Rattle.conc_event_reach.specs.declared.span.Span.{Span}
use Rattle.conc_event_reach.specs.declared.spans.Spans.{Spans}
use Rattle.conc_event_reach.proofs.Within.{bounds_within}

-- ---- one request

-- the request at an index has the number after it
number-at : (plan : Plan) (i : ℕ) (r : Req) → slice_get plan.requests i ≡ Some r → r.number.number ≡ 1 + i
unfolding request
number-at plan i r at = (found plan (record { number = 1 + i }) r (numbered-at plan.requests (1 + i) i refl ∙ at)).0

-- so where a request is asked for by its number, its index is known
index-of : (plan : Plan) (id : RequestId) (i : ℕ) (r : Req) → slice_get plan.requests i ≡ Some r → IsTrue (is_request id r)
    → (id.number ≡ 1 + i) × (i < length plan.requests)
index-of plan id i r at h = (eqb-true id.number r.number.number h ∙ number-at plan i r at, slice_get_within plan.requests i r at)

pub around_request : (plan : Plan) (id : RequestId) (span : Span) → id.number ≡ span.from + 1 → id.number ≡ span.to → id.number ≤ length plan.requests
    → IsAround plan (is_request id) span
around_request plan id span first last inside = record {
  all = λ i r at h.
      let p : (id.number ≡ 1 + i) × (i < length plan.requests) = index-of plan id i r at h in
      bounds_within i span (omega arith) (omega arith);
  inside = omega arith;
}

-- no request has the number 0
pub around_zero : (plan : Plan) (id : RequestId) (span : Span) → id.number ≡ 0 → span.to ≡ 0 → IsAround plan (is_request id) span
around_zero plan id span is end = record {
  all = λ i r at h. let p : (id.number ≡ 1 + i) × (i < length plan.requests) = index-of plan id i r at h in absurd (omega arith);
  inside = omega arith;
}

-- and none a number past the last one
pub around_past : (plan : Plan) (id : RequestId) (span : Span) → length plan.requests < id.number → span.to ≡ 0 → IsAround plan (is_request id) span
around_past plan id span past end = record {
  all = λ i r at h. let p : (id.number ≡ 1 + i) × (i < length plan.requests) = index-of plan id i r at h in absurd (omega arith);
  inside = omega arith;
}

-- ---- several requests

-- no request passes
pub around_none : (plan : Plan) (span : Span) → span.to ≡ 0 → IsAround plan (λ r. false) span
around_none plan span end = record { all = λ i r at h. absurd (both_ways false refl h); inside = omega arith }

-- a span that covers two spans is around what both are around
pub around_cover : (plan : Plan) (p q : Req → Bool) (a b span : Span) → IsAround plan p a → IsAround plan q b → IsCover a b span
    → IsAround plan (λ r. p r || q r) span
around_cover plan p q a b span first second cover = record {
  all = λ i r at h. elim (or_cases (p r) (q r) h) [
    | inl x ↦ cover.first i (first.all i r at x)
    | inr y ↦ cover.second i (second.all i r at y)
  ];
  inside = omega (arith, cover.inside, first.inside, second.inside);
}

pub around_command : (plan : Plan) (spans : Spans) (n : ℕ) → AreSpans plan spans → IsAround plan (λ r. n == r.command) (span_of_command spans n)
around_command plan spans n are = record {
  all = λ i r at h. let same : n ≡ r.command = eqb-true n r.command h in rw same (are.entered i r at);
  inside = are.commands_inside n;
}

pub around_members : (plan : Plan) (spans : Spans) (set : RequestId) → AreSpans plan spans
    → IsAround plan (λ r. some_and (id_eq set) r.parent) (span_of_members spans set)
unfolding span_of_members
around_members plan spans set are = record {
  all = λ i r at h.
      let p : (id : RequestId) × (r.parent ≡ Some id) × (id_eq set id ≡ true) = some_and-some (id_eq set) r.parent h in
      let same : set.number ≡ p.0.number = eqb-true set.number p.0.number p.2 in
      rw same (are.members i r p.0 at p.1);
  inside = are.members_inside set;
}

-- all requests stand in the whole
pub around_whole : (plan : Plan) (spans : Spans) (test : Req → Bool) → AreSpans plan spans → IsAround plan test spans.whole
around_whole plan spans test are = record {
  all = λ i r at h. rw are.whole (bounds_within i (record { from = 0; to = length plan.requests }) (omega arith) (slice_get_within plan.requests i r at));
  inside = rw are.whole (omega arith);
}

-- what a command is about: the requests that it enters, and those to which it does something
pub around_done : (plan : Plan) (spans : Spans) (n : ℕ) (own acted span : Span) → AreSpans plan spans → own ≡ span_of_command spans n
    → IsAround plan (is_acted_on (act_of plan (event.Command n))) acted → IsCover own acted span
    → IsAround plan (is_about plan (event.Command n)) span
unfolding is_about
around_done plan spans n own acted span are at does cover =
    let entered : IsAround plan (λ r. n == r.command) own = rw at (around_command plan spans n are) in
    around_cover plan (λ r. n == r.command) (is_acted_on (act_of plan (event.Command n))) own acted span entered does cover
