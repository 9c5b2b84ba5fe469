-- The laws that hold of every plan, of every lawful history, and of every run without workers.
use Rattle.std.specs.Prelude.{◌≡◌, ◌==◌, ◌∷◌, ◌++◌, ◌<◌, ◌≤◌, [], ℕ, List, Option, Some, None, IsFalse, IsSome, IsTrue, length, reverse}
use Rattle.conc_types.specs.declared.event.Event.{Event}
use Rattle.conc_types.specs.declared.event.Event.TheVariants as event
use Rattle.conc_types.specs.declared.event.PlaceId.{PlaceId}
use Rattle.conc_types.specs.declared.event.RequestId.{RequestId}
use Rattle.conc_types.specs.declared.item.Item.{Item}
use Rattle.conc_types.specs.declared.limits.TheConstants.{MOST_REPORT_BYTES}
use Rattle.conc_types.specs.declared.plan.Plan.{Plan}
use Rattle.conc_types.specs.declared.plan.Req.{Req}
use Rattle.conc_types.specs.declared.program.Job.{Job}
use Rattle.conc_types.specs.declared.script.Reading.{Reading}
use Rattle.conc_types.specs.declared.script.Readings.{Readings}
use Rattle.conc_types.specs.declared.setup.Setup.{Setup}
use Rattle.conc_types.specs.declared.table.Table.{Table}
use Rattle.conc_types.specs.Plans.{request}
use Rattle.conc_types.specs.Stages.{has_stage}
use Rattle.conc_types.specs.Words.{is_between, some_and}
use Rattle.conc_base_law.specs.Alone.{Alone, next_alone, opening}
use Rattle.conc_base_law.specs.Before.{occurs, occurs_since}
use Rattle.conc_base_law.specs.Ends.{AreReported}
use Rattle.conc_base_law.specs.Exclusion.{excludes}
use Rattle.conc_base_law.specs.Facts.{is_let, running_place, runs, stages_begun, was_completed}
use Rattle.conc_base_law.specs.Kinds.{begins_stage, ends_run, is_resume, starts, starts_at, tick_of}
use Rattle.conc_base_law.specs.Law.{Finished, Lawful, LawfulSoFar, may_follow}
use Rattle.conc_base_law.specs.Overlap.{NoOverlap}
use Rattle.conc_base_law.specs.Remaining.{remaining}
use Rattle.conc_base_law.specs.Report.{report}
use Rattle.conc_base_law.specs.Words.{Has}

-- ---- exclusion and plans

-- exclusion is symmetric
abbrev pub ExclusionIsSymmetric : Type 0
ExclusionIsSymmetric =
    (setup : Setup) (x y : Req) (x_parent y_parent : Option Item)
    → excludes setup x y x_parent y_parent ≡ excludes setup y x y_parent x_parent

-- each request of a plan is found by its number
abbrev pub RequestsAreNumbered : Type 0
RequestsAreNumbered = (plan : Plan) (r : Req) → Has plan.requests r → request plan r.number ≡ Some r

-- the text of a report is short
abbrev pub ReportIsShort : Type 0
ReportIsShort =
    (job : Job) (argument : List ℕ) (table : Table) → length (report job argument table).text ≤ MOST_REPORT_BYTES

-- ---- every lawful history

-- running intervals of requests that exclude each other do not overlap
abbrev pub LawfulHasNoOverlap : Type 0
LawfulHasNoOverlap = (plan : Plan) (history : List Event) → LawfulSoFar plan history → NoOverlap plan history

-- no start of a request occurs after its completion
abbrev pub NoStartAfterCompletion : Type 0
NoStartAfterCompletion =
    (plan : Plan) (before : List Event) (r : Req) (place : PlaceId) → Has plan.requests r
    → LawfulSoFar plan (before ++ event.Started r.number place ∷ []) → IsFalse (was_completed plan (reverse before) r)

-- two requests that run at one place are one
abbrev pub OneAtAPlace : Type 0
OneAtAPlace =
    (plan : Plan) (history : List Event) (x y : Req) (place : PlaceId) → Has plan.requests x → Has plan.requests y
    → LawfulSoFar plan history → running_place (reverse history) x.number ≡ Some place
    → running_place (reverse history) y.number ≡ Some place → x.number ≡ y.number

-- a request that runs is let
abbrev pub RunningIsLet : Type 0
RunningIsLet =
    (plan : Plan) (history : List Event) (r : Req) → Has plan.requests r → LawfulSoFar plan history
    → IsTrue (runs (reverse history) r.number) → IsTrue (is_let plan (reverse history) r)

-- the first event is a tick
abbrev pub BeginsWithATick : Type 0
BeginsWithATick = (plan : Plan) (e : Event) (history : List Event) → LawfulSoFar plan (e ∷ history) → IsSome (tick_of e)

-- the history up to any event is lawful too, with every life judged as an earlier one
abbrev pub PrefixIsLawfulSoFar : Type 0
PrefixIsLawfulSoFar =
    (plan : Plan) (before after : List Event) → LawfulSoFar plan (before ++ after) → LawfulSoFar plan before

-- a history that is lawful for some readings is lawful with every life judged as an earlier one
abbrev pub LawfulIsLawfulSoFar : Type 0
LawfulIsLawfulSoFar =
    (plan : Plan) (readings : Readings) (history : List Event) → Lawful plan readings.list history → LawfulSoFar plan history

-- ---- the run without a choice

-- what comes next in a run without workers is no resume, and may follow
abbrev pub ChoiceIsLawful : Type 0
ChoiceIsLawful =
    (plan : Plan) (readings : List Reading) (history : List Event) (e : Event)
    → next_alone plan readings (reverse history) ≡ Some e
    → IsFalse (is_resume e) × IsTrue (may_follow plan (Some readings) (reverse history) e)

-- a run without workers that goes on from a lawful history makes a lawful one
abbrev pub AloneIsLawful : Type 0
AloneIsLawful =
    (plan : Plan) (readings : List Reading) (found history : List Event) → LawfulSoFar plan found
    → Alone plan readings found history → Lawful plan readings history

-- where nothing comes next in a run without workers, the history is finished
abbrev pub AloneFinishes : Type 0
AloneFinishes =
    (plan : Plan) (readings : List Reading) (history : List Event) → LawfulSoFar plan history
    → next_alone plan readings (reverse history) ≡ None → Finished plan readings history

-- each end that a run without workers adds tells what the report of its request says
abbrev pub AloneReports : Type 0
AloneReports =
    (plan : Plan) (readings : List Reading) (found history : List Event) → Alone plan readings found history
    → AreReported plan (length (opening found)) history

-- a life ends: each event but a resume lowers the bound on the events that it still has
abbrev pub EachEventUsesUp : Type 0
EachEventUsesUp =
    (plan : Plan) (readings : List Reading) (history : List Event) (e : Event) → LawfulSoFar plan history
    → IsTrue (may_follow plan (Some readings) (reverse history) e) → IsFalse (is_resume e)
    → remaining plan readings (e ∷ reverse history) < remaining plan readings (reverse history)

-- from one beginning a run without workers makes one history
abbrev pub AloneIsUnique : Type 0
AloneIsUnique =
    (plan : Plan) (readings : List Reading) (found one another : List Event) → Alone plan readings found one
    → Alone plan readings found another → one ≡ another

-- ---- what is kept of a request, against the events

-- the stages of a set that have begun are those whose event occurs
abbrev pub BegunStagesOccur : Type 0
BegunStagesOccur =
    (past : List Event) (set : RequestId) (stage : ℕ) → IsTrue (is_between 1 64 stage)
    → has_stage (stages_begun past set) stage ≡ occurs (begins_stage set stage) past

-- a request runs where a start of it occurs with no end or interrupt after it
abbrev pub RunningHasItsStart : Type 0
RunningHasItsStart =
    (past : List Event) (r : RequestId) → runs past r ≡ occurs_since (λ _ e. starts r e) (λ _ e. ends_run r e) past

-- in a lawful history a request runs at the place at which a start of it occurs with no end or interrupt after it
abbrev pub RunningPlaceHasItsStart : Type 0
RunningPlaceHasItsStart =
    (plan : Plan) (history : List Event) (r : Req) (place : PlaceId) → Has plan.requests r → LawfulSoFar plan history
    → some_and (λ p. p.index == place.index) (running_place (reverse history) r.number)
    ≡ occurs_since (λ _ e. starts_at r.number place e) (λ _ e. ends_run r.number e) (reverse history)
