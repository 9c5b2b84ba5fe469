-- Indexes within spans.
use Rattle.std.proofs.Common.{◌≡◌, ℕ, true, ◌<◌, ◌≤◌}
use Rattle.std.specs.Prelude.{IsTrue, nat_le, nat_lt}
use Rattle.std.proofs.lemmas.Bool.{and_from, and_parts, le-leb, leb-true, lt-ltb, ltb-true}
use Rattle.conc_event_reach.specs.Spans.{is_within}
use Rattle.conc_event_reach.specs.declared.span.Span.{Span}

-- an index within a span is not before it, and not behind it
pub within-bounds : (i : ℕ) (span : Span) → IsTrue (is_within i span) → (span.from ≤ i) × (i < span.to)
within-bounds i span h =
    let p : (nat_le span.from i ≡ true) × (nat_lt i span.to ≡ true) = and_parts _ _ h in
    (leb-true span.from i p.0, ltb-true i span.to p.1)

-- an index between the ends is within
pub bounds_within : (i : ℕ) (span : Span) → span.from ≤ i → i < span.to → IsTrue (is_within i span)
bounds_within i span a b = and_from _ _ (le-leb span.from i a) (lt-ltb i span.to b)
