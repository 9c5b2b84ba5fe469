-- Lists of events that go on from one another.
use Rattle.std.specs.Prelude.{◌≡◌, List, [], ◌∷◌, ◌++◌, length, IsFalse}
use Rattle.std.specs.List.{list_any}
use Rattle.conc_types.specs.declared.event.Event.{Event}
use Rattle.conc_types.specs.declared.plan.Plan.{Plan}
use Rattle.conc_types.specs.declared.script.Reading.{Reading}
use Rattle.conc_base_law.specs.Alone.{Follows}
use Rattle.conc_base_law.specs.Ends.{AreReported}
use Rattle.conc_base_law.specs.Kinds.{is_resume}
use Rattle.conc_base_law.specs.Law.{Lawful}
use Rattle.conc_journal.specs.Journals.{list_of, state_of}
use Rattle.conc_journal.specs.declared.journal.Journal.{Journal}
use Rattle.conc_journal.specs.declared.journal.JournalState.{JournalState}
use Rattle.conc_journal.specs.declared.journal.JournalState.TheVariants.{NotBegun, BeginFailed, Begun, Broken, AppendFailed, MigrateFailed}

-- the second list begins with the first
abbrev pub IsPrefix : List Event → List Event → Type 0
IsPrefix first list = (rest : List Event) × (list ≡ first ++ rest)

-- The second list goes on from the first: it is lawful, none of the events that were added is a resume, and each end among
-- them tells what its request's report says.
pub record GoesOn (plan : Plan) (readings : List Reading) (first list : List Event) : Type 0 where
  pub added : List Event
  pub all : list ≡ first ++ added
  pub lawful : Lawful plan readings list
  pub no_resume : IsFalse (list_any is_resume added)
  pub reported : AreReported plan (length first) list

-- it goes on as a run without workers does: each event that was added is the one that comes next
abbrev pub GoesOnAlone : Plan → List Reading → List Event → List Event → Type 0
GoesOnAlone plan readings first list = Follows plan readings (length first) list

-- the events whose append met a fault: each is the last that the disk may have
abbrev pub failed_in : JournalState → List Event
failed_in NotBegun = []
failed_in (BeginFailed label) = []
failed_in (Begun label) = []
failed_in (Broken label) = []
failed_in (AppendFailed label event stamp) = event ∷ []
failed_in (MigrateFailed label base) = []

-- the longest list that the disk of a journal may have
abbrev pub longest_of : Journal → List Event
longest_of journal = list_of journal ++ failed_in (state_of journal)
