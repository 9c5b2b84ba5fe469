-- Kinds of event.
use Rattle.std.specs.Prelude.{ℕ, Bool, true, false, ◌&&◌, ◌||◌, ◌==◌, Option, None, Some}
use Rattle.std.specs.Bool.{then_some}
use Rattle.std.specs.Option.{option_map}
use Rattle.conc_types.specs.declared.event.Event.{Event}
use Rattle.conc_types.specs.declared.event.Event.TheVariants as event
use Rattle.conc_types.specs.declared.event.Moment.{Moment}
use Rattle.conc_types.specs.declared.event.PlaceId.{PlaceId}
use Rattle.conc_types.specs.declared.event.RequestId.{RequestId}
use Rattle.conc_types.specs.declared.plan.Plan.{Plan}
use Rattle.conc_types.specs.declared.script.Act.{Act}
use Rattle.conc_types.specs.declared.script.Act.TheVariants as act
use Rattle.conc_types.specs.Words.{numbered}
use Rattle.conc_base_law.specs.Words.{id_eq}

abbrev pub is_resume : Event → Bool
is_resume event.Resume = true
is_resume _ = false

-- the moment of a tick
abbrev pub tick_of : Event → Option Moment
tick_of (event.Tick t) = Some t
tick_of _ = None

abbrev pub is_command : ℕ → Event → Bool
is_command number (event.Command n) = n == number
is_command number _ = false

abbrev pub opens : RequestId → Event → Bool
opens set (event.OpenSet s) = id_eq s set
opens set _ = false

abbrev pub closes : RequestId → Event → Bool
closes set (event.CloseSet s o) = id_eq s set
closes set _ = false

abbrev pub lets : RequestId → Event → Bool
lets r (event.LetOut q) = id_eq q r
lets r _ = false

abbrev pub starts : RequestId → Event → Bool
starts r (event.Started q p) = id_eq q r
starts r _ = false

abbrev pub starts_at : RequestId → PlaceId → Event → Bool
starts_at r place (event.Started q p) = id_eq q r && p.index == place.index
starts_at r place _ = false

-- the place of a start of r
abbrev pub start_place : RequestId → Event → Option PlaceId
start_place r (event.Started q p) = then_some (id_eq q r) p
start_place r _ = None

abbrev pub ends : RequestId → Event → Bool
ends r (event.Ended q o x) = id_eq q r
ends r _ = false

abbrev pub interrupts : RequestId → Event → Bool
interrupts r (event.Interrupt q) = id_eq q r
interrupts r _ = false

-- an end or an interrupt, after which a request runs no more
abbrev pub ends_run : RequestId → Event → Bool
ends_run r e = ends r e || interrupts r e

abbrev pub begins_stage : RequestId → ℕ → Event → Bool
begins_stage set stage (event.Stage s k) = id_eq s set && k == stage
begins_stage set stage _ = false

-- the stage of the set that the event begins
abbrev pub stage_begun_by : RequestId → Event → Option ℕ
stage_begun_by set (event.Stage s k) = then_some (id_eq s set) k
stage_begun_by set _ = None

-- the bytes of an end's extent
abbrev pub extent_length : Event → ℕ
extent_length (event.Ended r o (Some x)) = x.length
extent_length _ = 0

-- ---- commands

-- what the command of the event does
unfoldable pub act_of : Plan → Event → Option Act
act_of plan (event.Command number) = option_map (λ order. order.act) (numbered plan.script.commands number)
act_of plan _ = None

abbrev pub is_hold : RequestId → Act → Bool
is_hold r (act.Hold q) = id_eq q r
is_hold r _ = false

abbrev pub is_unhold : RequestId → Act → Bool
is_unhold r (act.Unhold q) = id_eq q r
is_unhold r _ = false

abbrev pub is_cancel : RequestId → Act → Bool
is_cancel r (act.Cancel q) = id_eq q r
is_cancel r _ = false

abbrev pub is_terminate : RequestId → Act → Bool
is_terminate r (act.Terminate q) = id_eq q r
is_terminate r _ = false
