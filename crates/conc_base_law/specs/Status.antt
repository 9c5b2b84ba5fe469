-- The phase and status of a request.
use Rattle.std.specs.Prelude.{not, ◌&&◌, if◌then◌else◌, Option, None, Some, is_some}
use Rattle.std.specs.Bool.{then_some}
use Rattle.conc_types.specs.declared.event.Outcome.{Outcome}
use Rattle.conc_types.specs.declared.event.Outcome.TheVariants as outcome
use Rattle.conc_types.specs.declared.event.Phase.{Phase}
use Rattle.conc_types.specs.declared.event.Phase.TheVariants as phase
use Rattle.conc_types.specs.declared.event.Status.{Status}
use Rattle.conc_types.specs.declared.event.Status.TheVariants as status
use Rattle.conc_types.specs.declared.facts.Facts.{Facts}
use Rattle.conc_types.specs.declared.facts.State.{State}
use Rattle.conc_types.specs.declared.plan.Plan.{Plan}
use Rattle.conc_types.specs.declared.plan.Req.{Req}
use Rattle.conc_base_law.specs.Plans.{is_admitted, is_enabled}
use Rattle.conc_base_law.specs.State.{facts_at, has_come, is_running, is_stopping, is_waiting}
use Rattle.conc_base_law.specs.Words.{is_set}

abbrev pub status_of_outcome : Outcome → Status
status_of_outcome outcome.Normal = status.Normal
status_of_outcome outcome.Warning = status.Warning
status_of_outcome outcome.Error = status.Error
status_of_outcome outcome.Terminated = status.Terminated
status_of_outcome outcome.Cancelled = status.Cancelled

-- why a request that was not let waits, or that it was let: the first condition that holds
unfoldable pub waiting_status : Plan → State → Req → Facts → Phase × Status
waiting_status plan s r facts =
    if is_waiting plan s r then (phase.Pending, status.Waiting)
    else (if not (has_come s.time r.start) then (phase.Pending, status.Scheduled)
    else (if facts.let_out then (phase.Pending, status.Normal)
    else (phase.Pending, status.Standby)))

-- of a request that is not completed: the first condition that holds
unfoldable pub open_status : Plan → State → Req → Facts → Phase × Status
open_status plan s r facts =
    if is_running facts then (phase.Running, (if is_stopping facts then status.Terminating else status.Normal))
    else (if facts.opened then (phase.Running, (if is_some facts.stage then status.Paused else status.Normal))
    else (if facts.held then (phase.Inactive, status.OnHold)
    else (if not (is_set r.item) && not (is_enabled plan r) then (phase.Inactive, status.Disabled)
    else (if not (is_set r.item) && not (is_admitted plan r) then (phase.Inactive, status.NoManager)
    else waiting_status plan s r facts))))

abbrev pub status_by : Plan → State → Req → Facts → Option Outcome → Phase × Status
status_by plan s r facts (Some o) = (phase.Completed, status_of_outcome o)
status_by plan s r facts None = open_status plan s r facts

-- the phase and status of a request, which only a submitted one has
unfoldable pub status_of : Plan → State → Req → Option (Phase × Status)
status_of plan s r =
    then_some (facts_at s r).entered (status_by plan s r (facts_at s r) (facts_at s r).outcome)
