-- Moments between which no start of a request comes.
use Rattle.std.specs.Prelude.{ℕ, Bool, ◌&&◌, if◌then◌else◌, List, [], ◌∷◌, Option, None, Some, nat_le, nat_lt}
use Rattle.conc_types.specs.declared.event.Moment.{Moment}
use Rattle.conc_types.specs.declared.plan.Plan.{Plan}
use Rattle.conc_types.specs.declared.plan.Req.{Req}
use Rattle.conc_types.specs.Words.{some_and}
use Rattle.conc_machine_release.specs.declared.starts.StartWindow.{StartWindow}

-- the earlier of two starts, where this one is after the moment
abbrev pub earlier : ℕ → ℕ → ℕ → ℕ
earlier now best start = if nat_lt now start && nat_lt start best then start else best

-- the earliest start after the moment, or a greatest number where it is not before that
unfoldable pub next_from : ℕ → ℕ → List Req → ℕ
next_from now best [] = best
next_from now best (r ∷ rs) = next_from now (earlier now best r.start.seconds) rs

-- the moment is one of these
abbrev pub is_in_window : StartWindow → Option Moment → Bool
is_in_window window time = some_and (λ t. nat_le window.since t.seconds && nat_lt t.seconds window.next) time

-- the window that begins with the moment
abbrev pub window_at : Plan → Option Moment → StartWindow
window_at plan None = record { since = 0; next = 0 }
window_at plan (Some t) = record { since = t.seconds; next = next_from t.seconds 18446744073709551615 plan.requests }
