-- Where there may be something to do: among which requests, and from which command on.
use Rattle.std.specs.Prelude.{◌⊎◌, ℕ, ◌<◌, ◌≤◌, Bool, true, false, not, ◌&&◌, ◌||◌, IsFalse, IsTrue, length, Option, None, Some, slice_get, unwrap_or}
use Rattle.conc_types.specs.declared.facts.Facts.{Facts}
use Rattle.conc_types.specs.declared.facts.State.{State}
use Rattle.conc_types.specs.declared.plan.Plan.{Plan}
use Rattle.conc_base_law.specs.State.{is_completed, is_live, is_running}
use Rattle.conc_event_reach.specs.declared.span.Span.{Span}

-- ---- requests

-- a request with these facts is neither live nor runs, and it is not entered yet, or completed
abbrev pub is_quiet : Facts → Bool
is_quiet own = not (is_live own) && (not (is_running own) && (not own.entered || is_completed own))

abbrev pub quiet_at : Option Facts → Bool
quiet_at None = true
quiet_at (Some own) = is_quiet own

-- the index is outside of the span
abbrev pub IsOutside : ℕ → Span → Type 0
IsOutside i span = (i < span.from) ⊎ (span.to ≤ i)

-- each request outside of the span is quiet
abbrev pub AreQuiet : State → Span → Type 0
AreQuiet s span = (i : ℕ) → IsOutside i span → IsTrue (quiet_at (slice_get s.facts i))

-- so it is, and the span lies within the requests of the plan
pub record IsActive (plan : Plan) (s : State) (span : Span) : Type 0 where
  pub quiet : AreQuiet s span
  pub ordered : span.from ≤ span.to
  pub inside : span.to ≤ length plan.requests

-- ---- commands

-- the command at a place, from 0, is done
abbrev pub done_at : State → ℕ → Bool
done_at s place = unwrap_or (slice_get s.done place) false

-- each command before the place is done
abbrev pub AreDoneBefore : State → ℕ → Type 0
AreDoneBefore s place = (k : ℕ) → k < place → IsTrue (done_at s k)

-- and the one at the place is not, if there is one
pub record IsFirstUndone (s : State) (place : ℕ) : Type 0 where
  pub before : AreDoneBefore s place
  pub here : IsFalse (done_at s place)
