-- What a step of a run takes and leaves, by the plan and the readings that the machine has.
use Rattle.std.specs.Prelude.{ℕ, ◌<◌, ◌≤◌, List, [], ◌∷◌, ◌++◌, Option, reverse, unwrap_or, IsFalse, IsTrue}
use Rattle.conc_types.specs.declared.digests.Digests.{Digests}
use Rattle.conc_types.specs.declared.event.Event.{Event}
use Rattle.conc_types.specs.declared.plan.Plan.{Plan}
use Rattle.conc_types.specs.declared.script.Reading.{Reading}
use Rattle.conc_base_law.specs.Alone.{next_alone}
use Rattle.conc_base_law.specs.Law.{Finished, Lawful}
use Rattle.conc_base_law.specs.Remaining.{remaining}
use Rattle.conc_disk.specs.Disk.{DiskState, SeenFollows, exposes_nothing}
use Rattle.conc_disk.specs.Left.{EachImage, LeavesOnly}
use Rattle.conc_journal_image.specs.Fields.{has_record}
use Rattle.conc_journal.specs.Journals.{room_of, state_of}
use Rattle.conc_journal.specs.JournalStates.{has_faulted}
use Rattle.conc_journal.specs.declared.journal.Journal.{Journal}
use Rattle.conc_run_state.specs.Machines.{plan_of, readings_of}
use Rattle.conc_journal_spool.specs.Spools.{Agrees, KeepsBelow}
use Rattle.conc_run_state.specs.Disks.{Disks, disks}
use Rattle.conc_run_state.specs.Fits.{FitThroughout}
use Rattle.conc_run_state.specs.Inputs.{IsBegunFor, IsHeldFor}
use Rattle.conc_run_state.specs.Survival.{Survives}
use Rattle.conc_run_state.specs.Stored.{AreStored}
use Rattle.conc_run_state.specs.Works.{AreReady, AreTied, list_in}
use Rattle.conc_run_state.specs.declared.work.Work.{Work}

-- ---- by the machine's plan and readings

abbrev pub plan_in : Work → Plan
plan_in work = plan_of work.machine

-- none where the machine took none
abbrev pub readings_in : Work → List Reading
readings_in work = unwrap_or (readings_of work.machine) []

-- a disk of which nothing is said
abbrev pub any_disk : DiskState
any_disk = exposes_nothing 0

abbrev pub IsTied : Option Event → Work → DiskState → DiskState → Type 0
IsTied pending work journal spool = AreTied (plan_in work) (readings_in work) pending work journal spool

abbrev pub IsReady : Work → DiskState → DiskState → Type 0
IsReady work journal spool = AreReady (plan_in work) (readings_in work) work journal spool

abbrev pub IsFinished : Work → Type 0
IsFinished work = Finished (plan_in work) (readings_in work) (list_in work)

-- the event that comes next
abbrev pub next_in : Work → Option Event
next_in work = next_alone (plan_in work) (readings_in work) (reverse (list_in work))

-- a bound on the events that the life still has
abbrev pub left_in : Work → ℕ
left_in work = remaining (plan_in work) (readings_in work) (reverse (list_in work))

-- ---- one event

-- the event may come next, and the journal can take it
pub record MayLog (work : Work) (event : Event) : Type 0 where
  pub lawful : Lawful (plan_in work) (readings_in work) (list_in work ++ event ∷ [])
  pub spelled : IsTrue (has_record event)
  pub room : 0 < room_of work.journal
  pub sound : IsFalse (has_faulted (state_of work.journal))

-- Where the spool's disk held the texts of the ends of the first list, it holds those of the second. At each moment it had the first bytes,
-- so many, as they were, and it has them now.
pub record StoresOn (plan : Plan) (used : ℕ) (first second : List Event) (before after : DiskState) : Type 0 where
  pub stored : (from : ℕ) → EachImage (AreStored plan from first) before → EachImage (AreStored plan from second) after
  pub left : LeavesOnly (KeepsBelow used before) before after
  pub now : SeenFollows (Agrees used) before after

-- Where the journal is begun for an input, its disk had a list between these at each moment. In any case the count of faults of the
-- disk does not fall.
pub record SurvivesFor (work : Work) (first last : List Event) (before after : DiskState) : Type 0 where
  pub faults : before.faults ≤ after.faults
  pub images : (digests : Digests) → IsBegunFor (plan_in work) digests work.journal → LeavesOnly (Survives (plan_in work) digests first last) before after

-- where a journal is begun for an input, it is so still
abbrev pub StaysBegun : Plan → Journal → Journal → Type 0
StaysBegun plan old new = (digests : Digests) → IsBegunFor plan digests old → IsBegunFor plan digests new

-- where a journal was begun for an input, it is that of the input, with the event whose append met a fault, if one did
abbrev pub StaysHeld : Plan → Journal → Journal → Type 0
StaysHeld plan old new = (digests : Digests) → IsBegunFor plan digests old → IsHeldFor plan digests new

-- first the spool's disk alone is written, and then the journal's, and throughout each the two fit
abbrev pub FitInTurn : Plan → Digests → ℕ → Disks → Type 0
FitInTurn plan digests from d =
    FitThroughout plan digests from (disks d.journal_before d.journal_before d.spool_before d.spool_after)
    × FitThroughout plan digests from (disks d.journal_before d.journal_after d.spool_after d.spool_after)
