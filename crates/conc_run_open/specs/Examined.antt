-- What a run has in hand before it writes.
use Rattle.std.specs.Prelude.{◌≡◌, ◌⊎◌, List, [], ℕ, reverse, Some, unwrap_or}
use Rattle.conc_types.specs.declared.digests.Digests.{Digests}
use Rattle.conc_types.specs.declared.event.Event.{Event}
use Rattle.conc_types.specs.declared.plan.Plan.{Plan}
use Rattle.conc_types.specs.declared.script.Reading.{Reading}
use Rattle.conc_disk.specs.Disk.{DiskState}
use Rattle.conc_disk.specs.declared.disk.Disk.{Ghosts as DiskGhosts}
use Rattle.conc_base_law.specs.Alone.{opening}
use Rattle.conc_base_law.specs.Law.{LawfulSoFar}
use Rattle.conc_base_law.specs.State.{used}
use Rattle.conc_restart.specs.Machines.{plan_of, readings_of, StandsFor}
use Rattle.conc_journal.specs.Journals.{list_of, room_of, state_of}
use Rattle.conc_journal.specs.Journals.{IsOn as JournalIsOn}
use Rattle.conc_journal.specs.declared.journal.Journal.{Journal}
use Rattle.conc_journal.specs.declared.journal.JournalState.TheVariants.{NotBegun}
use Rattle.conc_restart.specs.Need.{need}
use Rattle.conc_journal_spool.specs.Spools.{used_of}
use Rattle.conc_journal_spool.specs.Spools.{IsOn as SpoolIsOn}
use Rattle.conc_run_state.specs.Handed.{Handed, IsFound, IsUntouched}
use Rattle.conc_run_state.specs.Inputs.{AreStampsOf, IsBegunFor}
use Rattle.conc_run_state.specs.Stores.{handed_with}
use Rattle.conc_run_open.specs.declared.examining.Examined.{Examined}

-- it is not begun, or begun for this input
abbrev pub MayStart : Plan → Digests → Journal → Type 0
MayStart plan digests journal = (state_of journal ≡ NotBegun) ⊎ IsBegunFor plan digests journal

-- and these are the stamps of the commands in its list
pub record MayStartWith (plan : Plan) (digests : Digests) (due : List ℕ) (journal : Journal) : Type 0 where
  pub may_start : MayStart plan digests journal
  pub due_are : AreStampsOf plan (list_of journal) due

-- the events found
abbrev pub list_found : Examined → List Event
list_found examined = list_of examined.journal

-- The machine stands for the events found with the resume of the life that is to begin. The journal has the events alone,
-- with room for a life. The stamps of the commands among them are at hand.
pub record IsReady (plan : Plan) (readings : List Reading) (examined : Examined) : Type 0 where
  pub plan_is : plan_of examined.machine ≡ plan
  pub readings_are : readings_of examined.machine ≡ Some readings
  pub stands : StandsFor examined.machine (reverse (opening (list_of examined.journal)))
  pub so_far : LawfulSoFar plan (list_of examined.journal)
  pub room : room_of examined.journal ≡ need plan readings
  pub used_is : used_of examined.spool ≡ used (reverse (list_of examined.journal))
  pub due : AreStampsOf plan (list_of examined.journal) examined.due.items

-- what is in hand is ready, its journal is not begun, or begun for this input, and both disks are on
pub record MayBegin (plan : Plan) (readings : List Reading) (digests : Digests) (examined : Examined) (journal spool : DiskState) : Type 0 where
  pub ready : IsReady plan readings examined
  pub state : MayStart plan digests examined.journal
  pub journal_on : JournalIsOn examined.journal journal
  pub spool_on : SpoolIsOn examined.spool spool

-- such is what was found on the disks
pub record IsExamined (h : Handed) (examined : Examined) : Type 0 where
  pub found : IsFound h (list_of examined.journal)
  pub may_begin : MayBegin h.plan h.readings h.digests examined h.disks.journal_after h.disks.spool_after

-- it was examined so, and nothing was written
pub record WasExamined (h : Handed) (examined : Examined) : Type 0 where
  pub is_examined : IsExamined h examined
  pub untouched : IsUntouched h

-- this journal's disk and this spool's were examined for the input that is held when they stood so, and nothing was written until they
-- stood as they do now
abbrev pub WasExaminedOn : {D E : Type 0} → DiskGhosts D → DiskGhosts E → Examined → D → D → E → E → Type 0
WasExaminedOn d e examined journal journal' spool spool' = WasExamined (handed_with d e examined.input journal journal' spool spool') examined

-- ---- by the machine's plan and readings, and the digests of its input

abbrev pub plan_held : Examined → Plan
plan_held examined = plan_of examined.machine

-- none where the machine took none
abbrev pub readings_held : Examined → List Reading
readings_held examined = unwrap_or (readings_of examined.machine) []

abbrev pub digests_held : Examined → Digests
digests_held examined = examined.input.digests.now

abbrev pub IsInHand : Examined → DiskState → DiskState → Type 0
IsInHand examined journal spool = MayBegin (plan_held examined) (readings_held examined) (digests_held examined) examined journal spool
