-- What a step of the resolver takes and leaves.
use Rattle.std.specs.Prelude.{◌≡◌, ◌⊎◌, Bool, List, Option, None, Result, Ok, Err, IsFalse, IsTrue, OnOk}
use Rattle.conc_types.specs.declared.event.Event.{Event}
use Rattle.conc_types.specs.declared.event.PlaceId.{PlaceId}
use Rattle.conc_types.specs.declared.event.RequestId.{RequestId}
use Rattle.conc_base_law.specs.Law.{Finished}
use Rattle.conc_outside.specs.Counts.{Rose}
use Rattle.conc_disk.specs.Disk.{DiskState}
use Rattle.conc_journal.specs.Journals.{state_of}
use Rattle.conc_board.specs.declared.board.Board.{Board}
use Rattle.conc_board.specs.Seats.{HasTold, SameSwitches, TakesMore, lead_state_of, places_of_lead, plan_of, switch_of}
use Rattle.conc_board.specs.declared.lead.Lead.{Lead}
use Rattle.conc_pool_seats.specs.LeadStates.{IsLet}
use Rattle.conc_pool_seats.specs.Words.{IsPlace, IsRequest, place_word}
use Rattle.conc_run_state.specs.Disks.{Disks, disks}
use Rattle.conc_run_state.specs.declared.error.RunFail.{RunFail}
use Rattle.conc_run_state.specs.declared.error.RunFail.TheVariants as run_fail
use Rattle.conc_run_steps.specs.Going.{IsUnderway, WentOn}
use Rattle.conc_run_steps.specs.Steps.{IsReady, readings_in}
use Rattle.conc_run_desk.specs.Desks.{IsAt, list_at, OpensWhatIsUsable, plan_at, SameWork}
use Rattle.conc_run_desk.specs.State.{DeskState}
use Rattle.conc_run_workers.specs.Runs.{LacksReport}
use Rattle.conc_run_steps.specs.Told.{IsTold, IsUntold}

-- What stands at one moment of a run: the desk, its two disks, and of the teller what it was told, what it takes, and whether it may
-- find no memory.
pub record Situation : Type 1 where
  pub desk : DeskState
  pub journal : DiskState
  pub spool : DiskState
  pub told : Option (List Event)
  pub takes : List Event → Type 0
  pub may_lack : Bool

-- the disks at two moments
abbrev pub disks_between : Situation → Situation → Disks
disks_between before after = disks before.journal after.journal before.spool after.spool

-- A desk at this board between two events: its work is ready for the two disks, no end is kept and none was lost, and the
-- teller, if it has a list, was told all.
pub record IsAtWork (board : Board) (s : Situation) : Type 0 where
  pub at : IsAt board s.desk
  pub ready : IsReady s.desk.work s.journal s.spool
  pub nothing_kept : s.desk.kept ≡ None
  pub sound : IsFalse s.desk.failed
  pub is_told : IsTold s.told s.takes (plan_at s.desk) (list_at s.desk)

-- a step on the board alone: the work is as it was, and the lead has the places that it had
pub record MovesAt (board : Board) (old new : DeskState) : Type 0 where
  pub at : IsAt board new
  pub same : SameWork old new
  pub places : places_of_lead new.lead ≡ places_of_lead old.lead

-- one that opens and closes no place
pub record StaysAt (board : Board) (old new : DeskState) : Type 0 where
  pub at : IsAt board new
  pub same : SameWork old new
  pub places : places_of_lead new.lead ≡ places_of_lead old.lead
  pub switches : SameSwitches old.lead new.lead

-- one that opens each place that may be used at the last reading, and closes each other one
pub record SetsPlaces (board : Board) (old new : DeskState) : Type 0 where
  pub moves : MovesAt board old new
  pub opens : OpensWhatIsUsable board new

-- no request is let out on the board without the go, and the hands are told that there is no more to come
pub record IsDismissed (board : Board) (lead : Lead) : Type 0 where
  pub none_let : (r : RequestId) → IsRequest (plan_of board) r → IsLet (lead_state_of lead r) → ⊥
  pub told : HasTold board lead

-- each place is open or closed as it was
pub record SameOpen (board : Board) (old new : Lead) : Type 0 where
  pub each : (p : PlaceId) → IsPlace (plan_of board) p → switch_of new (place_word (plan_of board) p) ≡ switch_of old (place_word (plan_of board) p)

-- a step on the board alone that comes to this, and opens and closes no place
pub record Dismisses (board : Board) (old new : DeskState) : Type 0 where
  pub moves : MovesAt board old new
  pub posts : TakesMore old.lead new.lead
  pub same_open : SameOpen board old.lead new.lead
  pub dismissed : IsDismissed board new.lead

-- from one moment between two events the run went on to another
pub record Advances (board : Board) (before after : Situation) : Type 0 where
  pub at : IsAt board after.desk
  pub places : places_of_lead after.desk.lead ≡ places_of_lead before.desk.lead
  pub under : IsUnderway before.desk.work after.desk.work (disks_between before after)
  pub nothing_kept : after.desk.kept ≡ None
  pub sound : IsFalse after.desk.failed
  pub is_told : IsTold after.told after.takes (plan_at after.desk) (list_at after.desk)

-- where a run that found no memory stands: a report found none, or the last event was not told, by a teller that may find none
abbrev pub IsShortOfMemory : Situation → Type 0
IsShortOfMemory s = LacksReport (plan_at s.desk) (list_at s.desk) s.desk.lead ⊎ (IsTrue s.may_lack × IsUntold s.told (list_at s.desk))

-- The run ended before its history was finished. But for a fault of the journal's disk no append met one. After a fault of the
-- spool's disk the desk takes no event more.
pub record Halts (board : Board) (fail : RunFail) (before after : Situation) : Type 0 where
  pub at : IsAt board after.desk
  pub places : places_of_lead after.desk.lead ≡ places_of_lead before.desk.lead
  pub went : WentOn (plan_at before.desk) (readings_in before.desk.work) (disks_between before after) before.desk.work after.desk.work
  pub journal_fault : fail ≡ run_fail.JournalFault → Rose before.journal.faults after.journal.faults
  pub spool_fault : fail ≡ run_fail.SpoolFault → Rose before.spool.faults after.spool.faults
  pub stops : fail ≡ run_fail.SpoolFault → IsTrue after.desk.failed
  pub memory : fail ≡ run_fail.NoMemory → IsShortOfMemory after
  pub sound : (fail ≡ run_fail.JournalFault → ⊥) → state_of after.desk.work.journal ≡ state_of before.desk.work.journal

-- what a step comes to, by its answer
abbrev pub Resolves : {T : Type 0} → Board → Result T RunFail → Situation → Situation → Type 0
Resolves board (Ok x) before after = Advances board before after
Resolves board (Err fail) before after = Halts board fail before after

-- What a whole run comes to, by its answer. Where it finished its history the places are open that may be used. However it ends,
-- nothing more is let out, and the hands are told so.
pub record Concludes (board : Board) (answer : Result Unit RunFail) (before after : Situation) : Type 0 where
  pub at : IsAt board after.desk
  pub places : places_of_lead after.desk.lead ≡ places_of_lead before.desk.lead
  pub went : WentOn (plan_at before.desk) (readings_in before.desk.work) (disks_between before after) before.desk.work after.desk.work
  pub finished : OnOk answer (Finished (plan_at before.desk) (readings_in before.desk.work) (list_at after.desk))
  pub is_told : OnOk answer (IsTold after.told after.takes (plan_at before.desk) (list_at after.desk))
  pub journal_fault : answer ≡ Err run_fail.JournalFault → Rose before.journal.faults after.journal.faults
  pub spool_fault : answer ≡ Err run_fail.SpoolFault → Rose before.spool.faults after.spool.faults
  pub stops : answer ≡ Err run_fail.SpoolFault → IsTrue after.desk.failed
  pub memory : answer ≡ Err run_fail.NoMemory → IsShortOfMemory after
  pub sound : (answer ≡ Err run_fail.JournalFault → ⊥) → state_of after.desk.work.journal ≡ state_of before.desk.work.journal
  pub opens : OnOk answer (OpensWhatIsUsable board after.desk)
  pub dismissed : IsDismissed board after.desk.lead
