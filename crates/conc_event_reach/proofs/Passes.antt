-- A pass over the facts of the requests that an event can change, and not over the others.
use Rattle.std.proofs.Common.{◌≡◌, ℕ, zero, suc, ◌<◌, ◌≤◌, Bool, List, [], ◌∷◌, take, Some, slice_get, refl, arith, ap}
use Rattle.conc_types.specs.declared.event.Event.{Event}
use Rattle.conc_types.specs.declared.facts.Facts.{Facts}
use Rattle.conc_types.specs.declared.plan.Plan.{Plan}
use Rattle.conc_types.specs.declared.plan.Req.{Req}
use Rattle.conc_event_effects.specs.Advance.{all_after}
use Rattle.conc_event_effects.specs.Step.{facts_after}
use Rattle.conc_event_reach.specs.Spans.{is_within, LeavesOthers}
use Rattle.conc_event_reach.specs.Started.{LeavesFacts}
use Rattle.conc_event_reach.specs.declared.span.Span.{Span}
use Rattle.std.specs.Prelude.{nat_le, nat_lt}
use Rattle.std.proofs.lemmas.Bool.{and_left, and_right, le-ltb, lt-leb}
use Rattle.std.proofs.lemmas.Bool.Decides.{nat_tests}

-- the event leaves the facts of a request as they are
abbrev Leaves : Plan → Event → Req → Facts → Type 0
Leaves plan e r own = (named : Facts) → facts_after plan named e r own ≡ own

-- where the event leaves the first ones as they are, a pass over them changes nothing
first-unchanged : (plan : Plan) (named : Facts) (e : Event) (k : ℕ) (rs : List Req) (facts : List Facts)
    → ((i : ℕ) (r : Req) (own : Facts) → slice_get rs i ≡ Some r → slice_get facts i ≡ Some own → i < k → Leaves plan e r own)
    → all_after plan named e (take k rs) facts ≡ facts
unfolding all_after
first-unchanged plan named e zero rs facts h = refl
first-unchanged plan named e (suc k) [] facts h = refl
first-unchanged plan named e (suc k) (r ∷ rs) [] h = refl
first-unchanged plan named e (suc k) (r ∷ rs) (own ∷ facts) h =
    let here : facts_after plan named e r own ≡ own = h zero r own refl refl (omega arith) named in
    let later : all_after plan named e (take k rs) facts ≡ facts =
    first-unchanged plan named e k rs facts (λ i q f at found below. h (suc i) q f at found (omega arith)) in
    cc

-- where it leaves all of them as they are
all-unchanged : (plan : Plan) (named : Facts) (e : Event) (rs : List Req) (facts : List Facts)
    → ((i : ℕ) (r : Req) (own : Facts) → slice_get rs i ≡ Some r → slice_get facts i ≡ Some own → Leaves plan e r own)
    → all_after plan named e rs facts ≡ facts
unfolding all_after
all-unchanged plan named e [] facts h = refl
all-unchanged plan named e (r ∷ rs) [] h = refl
all-unchanged plan named e (r ∷ rs) (own ∷ facts) h =
    let here : facts_after plan named e r own ≡ own = h zero r own refl refl named in
    let later : all_after plan named e rs facts ≡ facts = all-unchanged plan named e rs facts (λ i q f at found. h (suc i) q f at found) in
    cc

-- where it leaves those from an index on as they are, a pass over the ones before it changes all that changes
last-unchanged : (plan : Plan) (named : Facts) (e : Event) (k : ℕ) (rs : List Req) (facts : List Facts)
    → ((i : ℕ) (r : Req) (own : Facts) → slice_get rs i ≡ Some r → slice_get facts i ≡ Some own → k ≤ i → Leaves plan e r own)
    → all_after plan named e (take k rs) facts ≡ all_after plan named e rs facts
unfolding all_after
last-unchanged plan named e zero rs facts h =
    let all : all_after plan named e rs facts ≡ facts = all-unchanged plan named e rs facts (λ i q f at found. h i q f at found (omega arith)) in
    cc
last-unchanged plan named e (suc k) [] facts h = refl
last-unchanged plan named e (suc k) (r ∷ rs) [] h = refl
last-unchanged plan named e (suc k) (r ∷ rs) (own ∷ facts) h =
    ap (λ z. facts_after plan named e r own ∷ z)
    (last-unchanged plan named e k rs facts (λ i q f at found above. h (suc i) q f at found (omega arith)))

-- ---- where it leaves these facts as they are outside a span

-- nothing changes before the span
pub pass-before : (plan : Plan) (named : Facts) (e : Event) (span : Span) (facts : List Facts) → LeavesFacts plan e facts span
    → all_after plan named e (take span.from plan.requests) facts ≡ facts
pass-before plan named e span facts leaves =
    first-unchanged plan named e span.from plan.requests facts
    (λ i r own at found below. leaves i r own at found (and_left (nat_le span.from i) (nat_lt i span.to) (lt-leb span.from i below)))

-- nothing changes behind the span
pass-behind : (plan : Plan) (named : Facts) (e : Event) (span : Span) (facts : List Facts) → LeavesFacts plan e facts span
    → all_after plan named e (take span.to plan.requests) facts ≡ all_after plan named e plan.requests facts
pass-behind plan named e span facts leaves =
    last-unchanged plan named e span.to plan.requests facts
    (λ i r own at found above. leaves i r own at found (and_right (nat_le span.from i) (nat_lt i span.to) (le-ltb i span.to above)))

-- what is outside of a wider span is outside the span
outside-wider : (span : Span) (end i : ℕ) → span.to ≤ end → is_within i (record { from = span.from; to = end }) ≡ Bool.false → is_within i span ≡ Bool.false
outside-wider span end i wide out = grind (arith, nat_tests)

-- nothing changes behind an index that is behind the span
pub pass-from : (plan : Plan) (named : Facts) (e : Event) (span : Span) (facts : List Facts) (end : ℕ) → LeavesFacts plan e facts span → span.to ≤ end
    → all_after plan named e (take end plan.requests) facts ≡ all_after plan named e plan.requests facts
pass-from plan named e span facts end leaves wide =
    pass-behind plan named e (record { from = span.from; to = end }) facts
    (λ i r own at found out. leaves i r own at found (outside-wider span end i wide out))

-- ---- where it leaves any facts as they are

-- so it leaves these
pub leaves-these : (plan : Plan) (e : Event) (span : Span) (facts : List Facts) → LeavesOthers plan e span → LeavesFacts plan e facts span
leaves-these plan e span facts leaves = λ i r own at found out named. leaves i r at out named own

pub all_after-before : (plan : Plan) (named : Facts) (e : Event) (span : Span) (facts : List Facts) → LeavesOthers plan e span
    → all_after plan named e (take span.from plan.requests) facts ≡ facts
all_after-before plan named e span facts leaves = pass-before plan named e span facts (leaves-these plan e span facts leaves)

pub all_after-from : (plan : Plan) (named : Facts) (e : Event) (span : Span) (facts : List Facts) (end : ℕ) → LeavesOthers plan e span → span.to ≤ end
    → all_after plan named e (take end plan.requests) facts ≡ all_after plan named e plan.requests facts
all_after-from plan named e span facts end leaves wide = pass-from plan named e span facts end (leaves-these plan e span facts leaves) wide
