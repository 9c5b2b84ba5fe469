-- Which events have a line.
use Rattle.std.specs.Prelude.{ℕ, ◌^◌, Bool, true, ◌&&◌, nat_le, nat_lt, Option, None, Some, is_some}
use Rattle.conc_types.specs.declared.event.Event.{Event}
use Rattle.conc_types.specs.declared.event.Event.TheVariants as event
use Rattle.conc_types.specs.declared.event.Extent.{Extent}
use Rattle.conc_types.specs.declared.event.Outcome.{Outcome}
use Rattle.conc_types.specs.declared.plan.Plan.{Plan}
use Rattle.conc_base_law.specs.Next.{is_report_outcome, is_terminated}
use Rattle.conc_base_law.specs.Places.{place_of}

abbrev pub is_small : ℕ → Bool
is_small n = nat_lt n (2 ^ 32)

-- an end has an extent whose numbers fit, unless the request was terminated
abbrev pub ends_so : Outcome → Option Extent → Bool
ends_so o None = is_terminated o
ends_so o (Some x) = is_report_outcome o && (nat_lt x.offset (2 ^ 64) && is_small x.length)

-- the numbers of the event fit, a stage is from 1, a place is one of the plan, and an end or a close has an outcome that it may have
unfoldable pub has_line : Plan → Event → Bool
has_line plan (event.Tick t) = true
has_line plan (event.Command n) = is_small n
has_line plan (event.OpenSet s) = is_small s.number
has_line plan (event.Stage s k) = is_small s.number && (nat_le 1 k && is_small k)
has_line plan (event.CloseSet s o) = is_small s.number && is_report_outcome o
has_line plan (event.LetOut r) = is_small r.number
has_line plan (event.Started r p) = is_small r.number && is_some (place_of plan p)
has_line plan (event.Ended r o x) = is_small r.number && ends_so o x
has_line plan event.Resume = true
has_line plan (event.Interrupt r) = is_small r.number
