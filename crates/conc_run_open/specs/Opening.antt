-- What a run begins with.
use Rattle.std.specs.Prelude.{◌≡◌, ◌⊎◌, ℕ, List, Result, reverse, IfOk, IfSome, OnErr}
use Rattle.conc_types.specs.declared.event.Event.{Event}
use Rattle.conc_base_law.specs.Alone.{opening}
use Rattle.conc_base_law.specs.State.{used}
use Rattle.conc_disk.specs.Disk.{SeenFollows}
use Rattle.conc_disk.specs.declared.disk.Disk.{Ghosts as DiskGhosts}
use Rattle.conc_disk.specs.Left.{EachImage, LeavesOnly}
use Rattle.conc_journal_spool.specs.Spools.{KeepsBelow}
use Rattle.conc_run_state.specs.Handed.{Handed, IsTaken}
use Rattle.conc_run_state.specs.Inputs.{IsBegunFor, IsOfVersionTwo}
use Rattle.conc_run_state.specs.Survival.{Survives}
use Rattle.conc_run_state.specs.Stored.{AreStored}
use Rattle.conc_run_state.specs.Stores.{handed_with}
use Rattle.conc_run_state.specs.Works.{AreReady, list_in}
use Rattle.conc_run_state.specs.declared.error.HistoryFail.{HistoryFail}
use Rattle.conc_run_state.specs.declared.work.Work.{Work}
use Rattle.conc_run_open.specs.Examined.{WasExaminedOn}
use Rattle.conc_run_open.specs.Starting.{IsOpened}
use Rattle.conc_run_open.specs.declared.examining.Examined.{Examined}
use Rattle.conc_run_open.specs.declared.opening.Begun.{Begun}

-- a journal with the events found, with the resume of the life that begins or without
abbrev pub HasOpening : Handed → List Event → List ℕ → Type 0
HasOpening h found image = Survives h.plan h.digests found (opening found) image

-- a crash at some moment left of the journal what it might have left before, or such a journal
abbrev pub LeavesOpening : Handed → List Event → Type 0
LeavesOpening h found = LeavesOnly (λ image. h.disks.journal_before.may_leave image ⊎ HasOpening h found image) h.disks.journal_before h.disks.journal_after

-- where the spool held the texts of ends that were found, each image still does
abbrev pub StillStored : Handed → List Event → Type 0
StillStored h found = (from : ℕ) → IfSome h.disks.spool_before.seen (AreStored h.plan from found) → EachImage (AreStored h.plan from found) h.disks.spool_after

-- a life is begun in a journal of version 2: the list has the events found, with a resume behind them if there are any, and nothing else was
-- written for that
pub record IsBegun (h : Handed) (work : Work) : Type 0 where
  pub found : List Event
  pub taken : IsTaken h found
  pub list : list_in work ≡ opening found
  pub ready : AreReady h.plan h.readings work h.disks.journal_after h.disks.spool_after
  pub begun_for : IsBegunFor h.plan h.digests work.journal
  pub version : IsOfVersionTwo work.journal
  pub written : SeenFollows (IsOpened h.plan h.digests found) h.disks.journal_before h.disks.journal_after
  pub left : LeavesOpening h found
  pub stored : StillStored h found

-- the journal's disk failed while a life was begun: each image now of the journal has the events found, with the resume or
-- without, and each of the spool the bytes of their texts
pub record IsGivenUp (h : Handed) : Type 0 where
  pub found : List Event
  pub taken : IsTaken h found
  pub left : LeavesOpening h found
  pub journal : EachImage (HasOpening h found) h.disks.journal_after
  pub spool : EachImage (KeepsBelow (used (reverse found)) h.disks.spool_before) h.disks.spool_after
  pub stored : StillStored h found

-- What was examined when the disks stood so, whatever they were before, is begun, or given up where the journal's disk failed.
pub record IsBegunOrGivenUp (h : Handed) (answer : Result Begun HistoryFail) : Type 0 where
  pub begun : IfOk answer (λ begun. IsBegun h begun.work)
  pub given_up : OnErr answer (IsGivenUp h)

abbrev pub BeginsOn : {D E : Type 0} → DiskGhosts D → DiskGhosts E → Examined → D → D → E → Result Begun HistoryFail → Type 0
BeginsOn {D} {E} d e examined journal journal' spool answer =
    (before : D) (texts : E) → WasExaminedOn d e examined before journal texts spool
    → IsBegunOrGivenUp (handed_with d e examined.input before journal' texts spool) answer
