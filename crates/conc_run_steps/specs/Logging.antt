-- What an event that is added to the journal of a work comes to.
use Rattle.std.specs.Prelude.{◌≡◌, ◌+◌, ◌∷◌, ◌++◌, [], IfErr, IfOk, None, OnErr, OnOk, Result, Some, length}
use Rattle.conc_types.specs.declared.event.Event.{Event}
use Rattle.conc_outside.specs.Counts.{Rose}
use Rattle.conc_disk.specs.Disk.{DiskState}
use Rattle.conc_journal.specs.Journals.{room_of, state_of}
use Rattle.conc_journal.specs.JournalStates.{after_fault}
use Rattle.conc_journal.specs.Receipts.{IsNextOf}
use Rattle.conc_journal.specs.declared.receipt.Receipt.{Receipt}
use Rattle.conc_run_state.specs.Works.{list_in}
use Rattle.conc_run_state.specs.declared.error.RunFail.{RunFail}
use Rattle.conc_run_state.specs.declared.error.RunFail.TheVariants as run_fail
use Rattle.conc_run_state.specs.declared.work.Work.{Work}
use Rattle.conc_run_state.specs.Adding.{AddsRecords, stamp_for}
use Rattle.conc_run_steps.specs.Steps.{IsTied, plan_in, readings_in, StaysBegun, StaysHeld, SurvivesFor}

-- By its answer: the event is added, its record alone is written, and the receipt tells of it; or the journal's disk failed, and the list is as before. At each moment a
-- crash left a list with the event or without. All else stays.
pub record LogsEvent (event : Event) (answer : Result Receipt RunFail) (old new : Work) (before after spool : DiskState) : Type 0 where
  pub logged : OnOk answer (IsTied None new after spool)
  pub added : OnOk answer (list_in new ≡ list_in old ++ event ∷ [])
  pub receipt : IfOk answer (IsNextOf (Some (list_in old)) (λ list. list ≡ list_in new))
  pub state : OnOk answer (state_of new.journal ≡ state_of old.journal)
  pub written : OnOk answer (AddsRecords (plan_in old) (length (list_in old)) (event ∷ []) before after)
  pub room : OnOk answer (room_of new.journal + 1 ≡ room_of old.journal)
  pub begun_for : OnOk answer (StaysBegun (plan_in old) old.journal new.journal)
  pub not_logged : OnErr answer (IsTied (Some event) new after spool)
  pub as_before : OnErr answer (list_in new ≡ list_in old)
  pub failed : OnErr answer (state_of new.journal ≡ after_fault event (stamp_for (plan_in old) event) (state_of old.journal))
  pub held_for : OnErr answer (StaysHeld (plan_in old) old.journal new.journal)
  pub fault : OnErr answer (Rose before.faults after.faults)
  pub cause : IfErr answer (λ e. e ≡ run_fail.JournalFault)
  pub survives : SurvivesFor old (list_in old) (list_in old ++ event ∷ []) before after
  pub plan : plan_in new ≡ plan_in old
  pub readings : readings_in new ≡ readings_in old
  pub spool_stays : new.spool ≡ old.spool
