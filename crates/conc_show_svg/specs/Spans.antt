-- How long requests wait, and how long sets are open.
use Rattle.std.specs.Prelude.{ℕ, ◌+◌, Bool, false, if◌then◌else◌, List, [], ◌∷◌, Option, None, Some}
use Rattle.conc_types.specs.declared.event.Event.{Event}
use Rattle.conc_types.specs.declared.event.Event.TheVariants as event
use Rattle.conc_types.specs.declared.event.RequestId.{RequestId}
use Rattle.conc_base_law.specs.Words.{id_eq}
use Rattle.conc_show_svg.specs.declared.spans.Kind.{Kind}
use Rattle.conc_show_svg.specs.declared.spans.Kind.TheVariants as kind
use Rattle.conc_show_svg.specs.declared.spans.Span.{Span}

-- the request of which the event begins a span
abbrev pub begun_by : Kind → Event → Option RequestId
begun_by kind.Waits (event.LetOut r) = Some r
begun_by kind.Sets (event.OpenSet s) = Some s
begun_by _ _ = None

abbrev pub ends : Kind → RequestId → Event → Bool
ends kind.Waits r (event.Started q p) = id_eq q r
ends kind.Sets r (event.CloseSet s o) = id_eq s r
ends _ r _ = false

-- the index of the first of these events that ends the span, where the first of them has index i
abbrev pub first_end : Kind → RequestId → ℕ → List Event → Option ℕ
first_end k r i [] = None
first_end k r i (e ∷ later) = if ends k r e then Some i else first_end k r (i + 1) later

-- the spans before those of later events: one more, if an event begins one
abbrev pub with_span : Kind → ℕ → Option RequestId → List Event → List Span → List Span
with_span k i None later rest = rest
with_span k i (Some r) later rest = record { kind = k; request = r; from = i; to = first_end k r (i + 1) later } ∷ rest

-- the spans that these events begin, where the first of them has index i
abbrev pub spans_from : Kind → ℕ → List Event → List Span
spans_from k i [] = []
spans_from k i (e ∷ later) = with_span k i (begun_by k e) later (spans_from k (i + 1) later)

abbrev pub waits_of : List Event → List Span
waits_of events = spans_from kind.Waits 0 events

abbrev pub sets_of : List Event → List Span
sets_of events = spans_from kind.Sets 0 events
