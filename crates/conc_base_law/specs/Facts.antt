-- The facts of a request at a position, each read from the events before it.
use Rattle.std.specs.Prelude.{ℕ, Bool, not, ◌&&◌, ◌||◌, List, [], ◌∷◌, Option, None, Some, is_some, if◌then◌else◌}
use Rattle.std.specs.Bool.{then_some}
use Rattle.std.specs.Option.{option_map_or, option_or}
use Rattle.conc_types.specs.declared.event.Event.{Event}
use Rattle.conc_types.specs.declared.event.Event.TheVariants as event
use Rattle.conc_types.specs.declared.event.Outcome.{Outcome}
use Rattle.conc_types.specs.declared.event.Outcome.TheVariants as outcome
use Rattle.conc_types.specs.declared.event.PlaceId.{PlaceId}
use Rattle.conc_types.specs.declared.event.RequestId.{RequestId}
use Rattle.conc_types.specs.declared.facts.Facts.{Facts}
use Rattle.conc_types.specs.declared.plan.Plan.{Plan}
use Rattle.conc_types.specs.declared.plan.Req.{Req}
use Rattle.conc_types.specs.Stages.{has_stage, with_stage}
use Rattle.conc_types.specs.Words.{some_and}
use Rattle.conc_base_law.specs.Kinds.{act_of, closes, is_cancel, is_command, is_hold, is_terminate, is_unhold, lets, opens, stage_begun_by, start_place, starts, ends_run}
use Rattle.conc_base_law.specs.Before.{last_life, latest, latest_since, occurs, occurs_since}
use Rattle.conc_base_law.specs.Plans.{has_restart, parent}
use Rattle.conc_base_law.specs.Words.{id_eq, is_set}

-- r was entered
unfoldable pub is_entered : List Event → Req → Bool
is_entered past r = occurs (is_command r.command) past

-- r is a set that was opened, and not closed since
unfoldable pub is_open : List Event → Req → Bool
is_open past r = is_set r.item && occurs_since (λ _ e. opens r.number e) (λ _ e. closes r.number e) past

-- the stage of the set that began last
unfoldable pub current_stage : List Event → RequestId → Option ℕ
current_stage past set = latest (stage_begun_by set) past

-- the stages of the set that have begun, as a set of stages
unfoldable pub stages_begun : List Event → RequestId → ℕ
stages_begun [] set = 0
stages_begun (e ∷ past) set =
    option_map_or (λ stage. with_stage (stages_begun past set) stage) (stage_begun_by set e) (stages_begun past set)

-- the place at which r runs: that of its last start, with no end or interrupt after it
unfoldable pub running_place : List Event → RequestId → Option PlaceId
running_place past r = latest_since (start_place r) (ends_run r) past

unfoldable pub runs : List Event → RequestId → Bool
runs past r = is_some (running_place past r)

-- r was started in the last life
unfoldable pub was_started : List Event → RequestId → Bool
was_started past r = occurs (starts r) (last_life past)

-- the stage of r in its set has not begun
unfoldable pub waits_for_stage : Plan → List Event → Req → Bool
waits_for_stage plan past r =
    some_and (λ set. not (has_stage (stages_begun past set.number) r.stage)) (parent plan r)

-- ---- completion

-- r can be held or cancelled: entered, not running, no open set and not completed. `completion` says what is completed
unfoldable pub is_idle : List Event → (Req → Option Outcome) → Req → Bool
is_idle past completion r =
    is_entered past r && (not (runs past r.number) && (not (is_open past r) && not (is_some (completion r))))

-- the event is a cancel of r that takes effect
unfoldable pub cancels : Plan → List Event → (Req → Option Outcome) → Req → Event → Bool
cancels plan past completion r e = some_and (is_cancel r.number) (act_of plan e) && is_idle past completion r

-- the outcome with which the event completes r, unless r is completed already
unfoldable pub completes : Plan → List Event → (Req → Option Outcome) → Req → Event → Option Outcome
completes plan past completion r (event.Ended q o x) = then_some (id_eq q r.number) o
completes plan past completion r (event.CloseSet s o) =
    if id_eq s r.number then Some o
    else then_some (some_and (id_eq s) r.parent && waits_for_stage plan past r) outcome.Cancelled
completes plan past completion r (event.Interrupt q) =
    then_some (id_eq q r.number && not (has_restart plan r)) outcome.Error
completes plan past completion r (event.Command number) =
    then_some
    (cancels plan past completion r (event.Command number)
    || some_and (λ set. cancels plan past completion set (event.Command number)) (parent plan r))
    outcome.Cancelled
completes plan past completion r _ = None

-- the outcome with which r is completed: that of the first event that completes it
unfoldable pub completion : Plan → List Event → Req → Option Outcome
completion plan [] r = None
completion plan (e ∷ past) r = option_or (completion plan past r) (completes plan past (completion plan past) r e)

unfoldable pub was_completed : Plan → List Event → Req → Bool
was_completed plan past r = is_some (completion plan past r)

-- ---- commands that take effect

unfoldable pub holds : Plan → Req → List Event → Event → Bool
holds plan r past e = some_and (is_hold r.number) (act_of plan e) && is_idle past (completion plan past) r

unfoldable pub unholds : Plan → Req → List Event → Event → Bool
unholds plan r past e = some_and (is_unhold r.number) (act_of plan e) && not (was_completed plan past r)

unfoldable pub terminates : Plan → Req → List Event → Event → Bool
terminates plan r past e = some_and (is_terminate r.number) (act_of plan e) && runs past r.number

-- a hold of r took effect, and no unhold since
unfoldable pub is_held : Plan → List Event → Req → Bool
is_held plan past r = occurs_since (holds plan r) (unholds plan r) past

-- an event after which r is no longer let: its end or interrupt, or a hold or cancel that takes effect
unfoldable pub unlets : Plan → Req → List Event → Event → Bool
unlets plan r past e = ends_run r.number e || (holds plan r past e || cancels plan past (completion plan past) r e)

-- r was let out, and none of these occurs since
unfoldable pub is_let : Plan → List Event → Req → Bool
is_let plan past r = occurs_since (λ _ e. lets r.number e) (unlets plan r) past

-- r was terminated, and not started since
unfoldable pub was_terminated : Plan → List Event → Req → Bool
was_terminated plan past r = occurs_since (terminates plan r) (λ _ e. starts r.number e) past

-- ---- all of them

-- the facts of r after these events
unfoldable pub facts_of : Plan → List Event → Req → Facts
facts_of plan past r = record {
  entered = is_entered past r;
  held = is_held plan past r;
  opened = is_open past r;
  stage = current_stage past r.number;
  begun = record { bits = stages_begun past r.number };
  let_out = is_let plan past r;
  place = running_place past r.number;
  started = was_started past r.number;
  terminated = was_terminated plan past r;
  outcome = completion plan past r;
}
