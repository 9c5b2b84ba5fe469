-- What a run makes of its work, event by event.
use Rattle.std.specs.Prelude.{◌≡◌, ◌⊎◌, ℕ, ◌∷◌, [], ◌++◌, ◌≤◌, List, length, Option, Some, ⊤}
use Rattle.conc_types.specs.declared.digests.Digests.{Digests}
use Rattle.conc_types.specs.declared.event.Event.{Event}
use Rattle.conc_types.specs.declared.event.Event.TheVariants as event
use Rattle.conc_types.specs.declared.plan.Plan.{Plan}
use Rattle.conc_types.specs.declared.script.Reading.{Reading}
use Rattle.conc_base_law.specs.Ends.{IsReported}
use Rattle.conc_disk.specs.Disk.{SeenFollows}
use Rattle.conc_disk.specs.Left.{EachImage, LeavesOnly}
use Rattle.conc_journal.specs.Journals.{state_of}
use Rattle.conc_journal.specs.JournalStates.{state_label}
use Rattle.conc_journal_spool.specs.Spools.{Agrees, KeepsBelow, used_of}
use Rattle.conc_run_state.specs.Adding.{AddsRecords}
use Rattle.conc_run_state.specs.Disks.{Disks}
use Rattle.conc_run_state.specs.Inputs.{IsBegunFor}
use Rattle.conc_run_state.specs.Lists.{GoesOn}
use Rattle.conc_run_state.specs.Survival.{Survives}
use Rattle.conc_run_state.specs.Stored.{AreStored}
use Rattle.conc_run_state.specs.Works.{AreTied, list_in, longest_in}
use Rattle.conc_run_state.specs.declared.work.Work.{Work}
use Rattle.conc_run_steps.specs.Steps.{IsReady, plan_in, readings_in, StaysHeld}

-- an end with an extent tells what its request's report says
abbrev pub TellsReport : Plan → Event → Type 0
TellsReport plan (event.Ended id o (Some x)) = IsReported plan id o x
TellsReport plan e = ⊤

-- What a run made of its work, however it ended. The list went on lawfully, also by the event whose append met a fault, if one
-- did. Where none did, the records of the events that were added were written to the journal, and nothing else. The texts of ends that the spool held before it holds still, and those that were added too. At
-- each moment the journal's disk had a list between the one before and the longest after, and the spool's bytes of earlier
-- ends stayed. A journal that was begun for an input is that of the input.
pub record WentOn (plan : Plan) (readings : List Reading) (d : Disks) (old new : Work) : Type 0 where
  pub pending : Option Event
  pub tied : AreTied plan readings pending new d.journal_after d.spool_after
  pub list : GoesOn plan readings (list_in old) (longest_in new)
  pub last_is : (longest_in new ≡ list_in new) ⊎ ((e : Event) × (longest_in new ≡ list_in new ++ e ∷ []))
  pub stored : (from : ℕ) → EachImage (AreStored plan from (list_in old)) d.spool_before → EachImage (AreStored plan from (longest_in new)) d.spool_after
  pub label : state_label (state_of new.journal) ≡ state_label (state_of old.journal)
  pub written : state_of new.journal ≡ state_of old.journal → AddsRecords plan (length (list_in old)) list.added d.journal_before d.journal_after
  pub held : StaysHeld plan old.journal new.journal
  pub journal : (digests : Digests) → IsBegunFor plan digests old.journal → LeavesOnly (Survives plan digests (list_in old) (longest_in new)) d.journal_before d.journal_after
  pub journal_faults : d.journal_before.faults ≤ d.journal_after.faults
  pub spool : LeavesOnly (KeepsBelow (used_of old.spool) d.spool_before) d.spool_before d.spool_after
  pub spool_now : SeenFollows (Agrees (used_of old.spool)) d.spool_before d.spool_after

-- from a first work on, which was ready, a run has gone on to one that is ready
pub record IsUnderway (first work : Work) (d : Disks) : Type 0 where
  pub began : IsReady first d.journal_before d.spool_before
  pub ready : IsReady work d.journal_after d.spool_after
  pub went : WentOn (plan_in first) (readings_in first) d first work
  pub state : state_of work.journal ≡ state_of first.journal
  pub faults : d.journal_before.faults ≤ d.journal_after.faults
