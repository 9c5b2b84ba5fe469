-- What ties a machine, a journal and a spool, and their disks.
use Rattle.std.specs.Prelude.{◌≡◌, ◌+◌, ◌≤◌, List, [], ◌∷◌, ◌++◌, length, reverse, Option, None, Some, IsFalse, IsTrue, ⊤}
use Rattle.conc_types.specs.declared.event.Event.{Event}
use Rattle.conc_types.specs.declared.event.Event.TheVariants as event
use Rattle.conc_types.specs.declared.event.Extent.{Extent}
use Rattle.conc_types.specs.declared.event.Outcome.{Outcome}
use Rattle.conc_types.specs.declared.event.RequestId.{RequestId}
use Rattle.conc_types.specs.declared.plan.Plan.{Plan}
use Rattle.conc_types.specs.declared.script.Reading.{Reading}
use Rattle.conc_base_law.specs.Ends.{IsReported}
use Rattle.conc_base_law.specs.Law.{Lawful}
use Rattle.conc_base_law.specs.State.{used}
use Rattle.conc_disk.specs.Disk.{DiskState}
use Rattle.conc_disk.specs.Left.{EachImage}
use Rattle.conc_journal.specs.Journals.{list_of, room_of, state_of}
use Rattle.conc_journal.specs.Journals.{IsOn as JournalIsOn}
use Rattle.conc_journal.specs.JournalStates.{has_faulted, takes_events}
use Rattle.conc_restart.specs.Machines.{plan_of, readings_of, StandsFor}
use Rattle.conc_restart.specs.Need.{IsOfOneLife, need}
use Rattle.conc_journal_spool.specs.Spools.{used_of}
use Rattle.conc_journal_spool.specs.Spools.{IsOn as SpoolIsOn}
use Rattle.conc_run_state.specs.Lists.{longest_of}
use Rattle.conc_run_state.specs.Stored.{IsStored}
use Rattle.conc_run_state.specs.declared.work.Work.{Work}

-- the list that they stand for
abbrev pub list_in : Work → List Event
list_in work = list_of work.journal

-- the longest list that the journal's disk may have
abbrev pub longest_in : Work → List Event
longest_in work = longest_of work.journal

-- the list, with the event behind it that is pending, if there is one: its record is not in the journal yet
abbrev pub with_pending : Option Event → List Event → List Event
with_pending None list = list
with_pending (Some e) list = list ++ e ∷ []

-- An end that comes behind a list and is not in the journal yet: its outcome is that of its request's report, its extent
-- begins where those of the list end, and each image now of the spool holds its text.
pub record IsPendingEnd (plan : Plan) (list : List Event) (spool : DiskState) (id : RequestId) (outcome : Outcome) (extent : Extent) : Type 0 where
  pub reported : IsReported plan id outcome extent
  pub next : extent.offset ≡ used (reverse list)
  pub stored : EachImage (λ image. IsStored plan image id outcome extent) spool

-- such is the pending event, where it is an end with an extent
abbrev pub HasPendingText : Plan → List Event → DiskState → Option Event → Type 0
HasPendingText plan list spool (Some (event.Ended id o (Some x))) = IsPendingEnd plan list spool id o x
HasPendingText plan list spool pending = ⊤

-- The machine, the journal and the spool stand for one list, which is lawful for the readings that the machine took, and
-- both disks are on. The spool has the text of the pending end, if there is one.
pub record AreTied (plan : Plan) (readings : List Reading) (pending : Option Event) (work : Work) (journal spool : DiskState) : Type 0 where
  pub plan_is : plan_of work.machine ≡ plan
  pub readings_are : readings_of work.machine ≡ Some readings
  pub stands : StandsFor work.machine (reverse (list_in work))
  pub lawful : Lawful plan readings (list_in work)
  pub takes : IsTrue (takes_events (state_of work.journal))
  pub used_is : used_of work.spool ≡ used (reverse (with_pending pending (list_in work)))
  pub pending_text : HasPendingText plan (list_in work) spool pending
  pub journal_on : JournalIsOn work.journal journal
  pub spool_on : SpoolIsOn work.spool spool

-- the journal has room for the events that the last life may still have
pub record HasRoom (plan : Plan) (readings : List Reading) (work : Work) : Type 0 where
  pub earlier : List Event
  pub life : List Event
  pub lives : list_in work ≡ earlier ++ life
  pub one : IsOfOneLife life
  pub enough : need plan readings ≤ room_of work.journal + length life

-- what a run begins with: its parts are tied, with room for a life, and no append has met a fault
pub record AreReady (plan : Plan) (readings : List Reading) (work : Work) (journal spool : DiskState) : Type 0 where
  pub tied : AreTied plan readings None work journal spool
  pub room : HasRoom plan readings work
  pub sound : IsFalse (has_faulted (state_of work.journal))
