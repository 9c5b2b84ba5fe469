-- How one event changes the facts of one request.
use Rattle.std.specs.Prelude.{ℕ, Bool, not, ◌&&◌, ◌||◌, Option, None, Some, if◌then◌else◌}
use Rattle.std.specs.Bool.{then_some}
use Rattle.std.specs.Option.{option_map_or, option_or}
use Rattle.conc_types.specs.declared.event.Event.{Event}
use Rattle.conc_types.specs.declared.event.Event.TheVariants as event
use Rattle.conc_types.specs.declared.event.Outcome.{Outcome}
use Rattle.conc_types.specs.declared.event.Outcome.TheVariants as outcome
use Rattle.conc_types.specs.declared.event.PlaceId.{PlaceId}
use Rattle.conc_types.specs.declared.facts.Facts.{Facts}
use Rattle.conc_types.specs.declared.plan.Plan.{Plan}
use Rattle.conc_types.specs.declared.plan.Req.{Req}
use Rattle.conc_types.specs.Stages.{has_stage, with_stage}
use Rattle.conc_types.specs.Words.{some_and}
use Rattle.conc_base_law.specs.Kinds.{act_of, closes, is_cancel, is_command, is_hold, is_resume, is_terminate, is_unhold, lets, opens, stage_begun_by, start_place, starts, ends_run}
use Rattle.conc_base_law.specs.Plans.{has_restart, parent}
use Rattle.conc_base_law.specs.State.{is_completed, is_running}
use Rattle.conc_base_law.specs.Words.{id_eq, is_set}

-- it can be held or cancelled
unfoldable pub idle : Facts → Bool
idle own = own.entered && (not (is_running own) && (not own.opened && not (is_completed own)))

-- the event is a command of this kind on r that takes effect
unfoldable pub cancelled_by : Plan → Req → Event → Facts → Bool
cancelled_by plan r e own = some_and (is_cancel r.number) (act_of plan e) && idle own

unfoldable pub held_by : Plan → Req → Event → Facts → Bool
held_by plan r e own = some_and (is_hold r.number) (act_of plan e) && idle own

unfoldable pub unheld_by : Plan → Req → Event → Facts → Bool
unheld_by plan r e own = some_and (is_unhold r.number) (act_of plan e) && not (is_completed own)

-- the event is a cancel of r's set
unfoldable pub cancels_set : Plan → Req → Event → Bool
cancels_set plan r e = some_and (λ set. some_and (is_cancel set.number) (act_of plan e)) (parent plan r)

-- r is a member of a set that has these facts, and its stage has not begun
unfoldable pub waits_in : Plan → Facts → Req → Bool
waits_in plan named r = some_and (λ set. not (has_stage named.begun.bits r.stage)) (parent plan r)

-- the outcome with which the event completes r. The request that a cancel or a close names has the facts `named`
unfoldable pub outcome_by : Plan → Facts → Req → Event → Facts → Option Outcome
outcome_by plan named r (event.Ended q o x) own = then_some (id_eq q r.number) o
outcome_by plan named r (event.CloseSet s o) own =
    if id_eq s r.number then Some o else then_some (some_and (id_eq s) r.parent && waits_in plan named r) outcome.Cancelled
outcome_by plan named r (event.Interrupt q) own = then_some (id_eq q r.number && not (has_restart plan r)) outcome.Error
outcome_by plan named r (event.Command number) own =
    then_some
    (cancelled_by plan r (event.Command number) own || (cancels_set plan r (event.Command number) && idle named))
    outcome.Cancelled
outcome_by plan named r _ own = None

-- ---- each fact after the event

unfoldable pub entered_after : Req → Event → Facts → Bool
entered_after r e own = is_command r.command e || own.entered

unfoldable pub held_after : Plan → Req → Event → Facts → Bool
held_after plan r e own = held_by plan r e own || (not (unheld_by plan r e own) && own.held)

unfoldable pub opened_after : Req → Event → Facts → Bool
opened_after r e own = (is_set r.item && opens r.number e) || (not (closes r.number e) && own.opened)

unfoldable pub stage_after : Req → Event → Facts → Option ℕ
stage_after r e own = option_or (stage_begun_by r.number e) own.stage

unfoldable pub begun_after : Req → Event → Facts → ℕ
begun_after r e own =
    option_map_or (λ stage. with_stage own.begun.bits stage) (stage_begun_by r.number e) own.begun.bits

unfoldable pub unlet_by : Plan → Req → Event → Facts → Bool
unlet_by plan r e own = ends_run r.number e || (held_by plan r e own || cancelled_by plan r e own)

unfoldable pub let_after : Plan → Req → Event → Facts → Bool
let_after plan r e own = lets r.number e || (not (unlet_by plan r e own) && own.let_out)

unfoldable pub place_after : Req → Event → Facts → Option PlaceId
place_after r e own = option_or (start_place r.number e) (if ends_run r.number e then None else own.place)

unfoldable pub started_after : Req → Event → Facts → Bool
started_after r e own = not (is_resume e) && (starts r.number e || own.started)

unfoldable pub terminated_after : Plan → Req → Event → Facts → Bool
terminated_after plan r e own =
    (some_and (is_terminate r.number) (act_of plan e) && is_running own) || (not (starts r.number e) && own.terminated)

-- all of them
unfoldable pub facts_after : Plan → Facts → Event → Req → Facts → Facts
facts_after plan named e r own = record {
  entered = entered_after r e own;
  held = held_after plan r e own;
  opened = opened_after r e own;
  stage = stage_after r e own;
  begun = record { bits = begun_after r e own };
  let_out = let_after plan r e own;
  place = place_after r e own;
  started = started_after r e own;
  terminated = terminated_after plan r e own;
  outcome = option_or own.outcome (outcome_by plan named r e own);
}
