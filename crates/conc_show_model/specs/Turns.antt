-- Moments, and the last turn of a request.
use Rattle.std.specs.Prelude.{ℕ, ◌+◌, Bool, false, ◌||◌, if◌then◌else◌, List, [], ◌∷◌, Option, None, Some, is_some}
use Rattle.std.specs.Option.{option_or}
use Rattle.conc_types.specs.declared.event.Event.{Event}
use Rattle.conc_types.specs.declared.event.Event.TheVariants as event
use Rattle.conc_types.specs.declared.event.Moment.{Moment}
use Rattle.conc_types.specs.declared.event.RequestId.{RequestId}
use Rattle.conc_base_law.specs.Kinds.{closes, ends_run, lets, opens, starts, tick_of}
use Rattle.conc_base_law.specs.Words.{id_eq}
use Rattle.conc_show_model.specs.declared.turns.Begun.{Begun}
use Rattle.conc_show_model.specs.declared.turns.Turn.{Turn}

-- ---- moments

-- the moment of an event, where this is the one of the event before
abbrev pub moment_after : Option Moment → Event → Option Moment
moment_after now e = option_or (tick_of e) now

unfoldable pub moments_from : Option Moment → List Event → List (Option Moment)
moments_from now [] = []
moments_from now (e ∷ later) = moment_after now e ∷ moments_from (moment_after now e) later

-- the moment of each event: that of the last tick before it, or its own
abbrev pub moments_of : List Event → List (Option Moment)
moments_of events = moments_from None events

-- ---- turns

abbrev pub is_let : RequestId → Event → Bool
is_let r e = lets r e || opens r e

abbrev pub begins_any_stage : RequestId → Event → Bool
begins_any_stage r (event.Stage s k) = id_eq s r
begins_any_stage r _ = false

abbrev pub is_start : RequestId → Event → Bool
is_start r e = starts r e || begins_any_stage r e

abbrev pub is_end : RequestId → Event → Bool
is_end r e = ends_run r e || closes r e

-- the index of the first end, where the first of these events has index i
unfoldable pub end_from : RequestId → ℕ → List Event → Option ℕ
end_from r i [] = None
end_from r i (e ∷ later) = if is_end r e then Some i else end_from r (i + 1) later

-- that of the first start, and that of the first end behind it
unfoldable pub begun_from : RequestId → ℕ → List Event → Begun
begun_from r i [] = record { start = None; end = None }
begun_from r i (e ∷ later) = if is_start r e then record { start = Some i; end = end_from r (i + 1) later } else begun_from r (i + 1) later

abbrev pub no_turn : Turn
no_turn = record { let_out = None; begun = record { start = None; end = None } }

-- the turn that begins with the event at index i, if it is one that lets the request out
abbrev pub turn_at : RequestId → ℕ → Event → List Event → Turn
turn_at r i e later =
    if is_let r e then record { let_out = Some i; begun = begun_from r (i + 1) later } else no_turn

-- the last turn of a request: its last let, its first start behind that, and its first end behind the start
unfoldable pub turn_from : RequestId → ℕ → List Event → Turn
turn_from r i [] = no_turn
turn_from r i (e ∷ later) = if is_some (turn_from r (i + 1) later).let_out then turn_from r (i + 1) later else turn_at r i e later

abbrev pub turn_of : RequestId → List Event → Turn
turn_of r events = turn_from r 0 events
