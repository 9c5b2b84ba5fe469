-- Spans by number, widened one index after the other.
use Rattle.std.specs.Prelude.{◌≡◌, ℕ, ◌<◌, ◌≤◌, IsTrue, List, Option, None, Some, unwrap_or}
use Rattle.conc_types.specs.declared.event.RequestId.{RequestId}
use Rattle.conc_types.specs.Words.{numbered}
use Rattle.conc_event_reach.specs.Spans.{is_within}
use Rattle.conc_event_reach.specs.declared.span.Span.{Span}

-- the span of a number, and the whole where there is none
abbrev pub span_at : List Span → ℕ → Span → Span
span_at spans number whole = unwrap_or (numbered spans number) whole

-- the spans hold what they held, and that of the number holds the index
pub record IsWidened (old new : List Span) (number index : ℕ) : Type 0 where
  pub kept : (whole : Span) (n i : ℕ) → IsTrue (is_within i (span_at old n whole)) → IsTrue (is_within i (span_at new n whole))
  pub taken : (whole : Span) → IsTrue (is_within index whole) → IsTrue (is_within index (span_at new number whole))
  pub inside : (whole : Span) (n size : ℕ) → (span_at old n whole).to ≤ size → index < size → (span_at new n whole).to ≤ size

-- the same, where there may be no number
abbrev pub IsWidenedBy : List Span → List Span → Option RequestId → ℕ → Type 0
IsWidenedBy old new None index = new ≡ old
IsWidenedBy old new (Some id) index = IsWidened old new id.number index
