-- The laws of the run without workers, where programs post.
use Rattle.std.specs.Prelude.{◌≡◌, List, length, reverse, None, Some, IsFalse, IsTrue}
use Rattle.conc_types.specs.declared.event.Event.{Event}
use Rattle.conc_types.specs.declared.plan.Plan.{Plan}
use Rattle.conc_types.specs.declared.script.Reading.{Reading}
use Rattle.conc_types.specs.declared.script.Readings.{Readings}
use Rattle.conc_base_law.specs.Alone.{opening}
use Rattle.conc_base_law.specs.Kinds.{is_resume}
use Rattle.conc_base_law.specs.Law.{Finished, Lawful, LawfulSoFar, may_follow}
use Rattle.conc_base_posts.specs.Alone.{Alone, next_alone}
use Rattle.conc_base_posts.specs.Ends.{AreReported}

-- what comes next is no resume, and may follow
abbrev pub ChoiceIsLawful : Type 0
ChoiceIsLawful =
    (plan : Plan) (readings : List Reading) (history : List Event) (e : Event)
    → next_alone plan readings (reverse history) ≡ Some e
    → IsFalse (is_resume e) × IsTrue (may_follow plan (Some readings) (reverse history) e)

-- a run without workers that goes on from a lawful history makes a lawful one
abbrev pub AloneIsLawful : Type 0
AloneIsLawful =
    (plan : Plan) (readings : List Reading) (found history : List Event) → LawfulSoFar plan found
    → Alone plan readings found history → Lawful plan readings history

-- where nothing comes next, the history is finished
abbrev pub AloneFinishes : Type 0
AloneFinishes =
    (plan : Plan) (readings : List Reading) (history : List Event) → LawfulSoFar plan history
    → next_alone plan readings (reverse history) ≡ None → Finished plan readings history

-- each end that it adds tells what the report of its request says at its last start
abbrev pub AloneReports : Type 0
AloneReports =
    (plan : Plan) (readings : List Reading) (found history : List Event) → Alone plan readings found history
    → AreReported plan (length (opening found)) history

-- from one beginning it makes one history
abbrev pub AloneIsUnique : Type 0
AloneIsUnique =
    (plan : Plan) (readings : List Reading) (found one another : List Event) → Alone plan readings found one
    → Alone plan readings found another → one ≡ another

-- from each history that is lawful so far there is one that it makes
abbrev pub ARunWithoutWorkersExists : Type 0
ARunWithoutWorkersExists =
    (plan : Plan) (readings : Readings) (found : List Event) → LawfulSoFar plan found
    → (history : List Event) × Alone plan readings.list found history
