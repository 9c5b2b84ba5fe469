-- How stages follow each other in a set, and the outcomes of stages and sets.
use Rattle.std.specs.Prelude.{◌==◌, ℕ, Bool, ◌&&◌, ◌+◌, if◌then◌else◌, List, map, Option, None, Some, slice_get}
use Rattle.std.specs.Bool.{then_some}
use Rattle.std.specs.List.{list_all, filter_map, enumerate_from, filter}
use Rattle.std.specs.Option.{option_and_then, option_map, option_flatten}
use Rattle.conc_types.specs.declared.event.Event.{Event}
use Rattle.conc_types.specs.declared.event.Event.TheVariants as event
use Rattle.conc_types.specs.declared.event.Outcome.{Outcome}
use Rattle.conc_types.specs.declared.event.Outcome.TheVariants as outcome
use Rattle.conc_types.specs.declared.facts.Facts.{Facts}
use Rattle.conc_types.specs.declared.facts.State.{State}
use Rattle.conc_types.specs.declared.plan.Plan.{Plan}
use Rattle.conc_types.specs.declared.plan.Req.{Req}
use Rattle.conc_types.specs.declared.stage.Stage.{Stage}
use Rattle.conc_types.specs.Stages.{has_stage}
use Rattle.conc_types.specs.Words.{greatest, is_empty, numbered}
use Rattle.conc_base_law.specs.Plans.{members, stages_of}
use Rattle.conc_base_law.specs.State.{facts_at, is_completed}

-- how bad an outcome is within a set: Normal, Warning, and all others, which count as Error
abbrev pub severity : Outcome → ℕ
severity outcome.Normal = 0
severity outcome.Warning = 1
severity _ = 2

abbrev pub of_severity : ℕ → Outcome
of_severity n = if n == 0 then outcome.Normal else (if n == 1 then outcome.Warning else outcome.Error)

-- the worst of some outcomes: Normal, Warning or Error
unfoldable pub worst : List Outcome → Outcome
worst outcomes = of_severity (greatest (map severity outcomes))

unfoldable pub outcome_at : State → Req → Option Outcome
outcome_at s r = (facts_at s r).outcome

unfoldable pub completed_at : State → Req → Bool
completed_at s r = is_completed (facts_at s r)

-- all members of the stage are completed
unfoldable pub has_ended : Plan → State → Req → ℕ → Bool
has_ended plan s set stage = list_all (completed_at s) (members plan set.number stage)

-- the outcome of a stage that has ended: the worst of its members' outcomes
unfoldable pub stage_outcome : Plan → State → Req → ℕ → Outcome
stage_outcome plan s set stage = worst (filter_map (outcome_at s) (members plan set.number stage))

-- the link of a stage for an outcome: the place of a later stage, from 0
abbrev pub link_place : Outcome → ℕ
link_place outcome.Normal = 0
link_place outcome.Warning = 1
link_place _ = 2

abbrev pub link : Stage → Outcome → Option ℕ
link stage o = option_flatten (slice_get stage.links (link_place o))

-- the number of the stage that follows one that has ended, from 1
unfoldable pub next_stage : Plan → State → Req → ℕ → Option ℕ
next_stage plan s set stage =
    option_map (λ place. place + 1)
    (option_and_then (λ found. link found (stage_outcome plan s set stage)) (numbered (stages_of plan set) stage))

-- the stage, which is given with its number, is critical and ran
unfoldable pub counts_for_set : Facts → ℕ × Stage → Bool
counts_for_set facts stage = stage.1.critical && has_stage facts.begun.bits stage.0

unfoldable pub critical_stages : Plan → State → Req → List (ℕ × Stage)
critical_stages plan s set = filter (counts_for_set (facts_at s set)) (enumerate_from 1 (stages_of plan set))

-- the outcome of a set: the worst of its critical stages that ran, or, where none ran, that of its last stage
unfoldable pub set_outcome : Plan → State → Req → ℕ → Outcome
set_outcome plan s set last =
    if is_empty (critical_stages plan s set)
    then stage_outcome plan s set last
    else worst (map (λ stage. stage_outcome plan s set stage.0) (critical_stages plan s set))

-- what an open set does next, where something is due: its first stage, the stage that follows, or its close
abbrev pub after_stage : Plan → State → Req → ℕ → Option ℕ → Event
after_stage plan s set last None = event.CloseSet set.number (set_outcome plan s set last)
after_stage plan s set last (Some next) = event.Stage set.number next

abbrev pub step_from : Plan → State → Req → Option ℕ → Option Event
step_from plan s set None = Some (event.Stage set.number 1)
step_from plan s set (Some stage) =
    then_some (has_ended plan s set stage) (after_stage plan s set stage (next_stage plan s set stage))

unfoldable pub set_step : Plan → State → Req → Option Event
set_step plan s set = step_from plan s set (facts_at s set).stage
