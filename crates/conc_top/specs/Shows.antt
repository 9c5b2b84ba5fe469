-- What is shown of a journal and a spool.
use Rattle.std.specs.Prelude.{◌≡◌, ℕ, List, reverse}
use Rattle.conc_types.specs.declared.digests.Digests.{Digests}
use Rattle.conc_types.specs.declared.event.Event.{Event}
use Rattle.conc_types.specs.declared.event.RequestId.{RequestId}
use Rattle.conc_types.specs.declared.plan.Plan.{Plan}
use Rattle.conc_disk.specs.Disk.{DiskState, Stays}
use Rattle.conc_disk.specs.Left.{LeavesOnly}
use Rattle.conc_base_law.specs.Text.{table_text}
use Rattle.conc_run_open.specs.Listing.{HasListCause, IsListed}
use Rattle.conc_run_open.specs.Texts.{HasReadCause, HasText, HasTextCause}
use Rattle.conc_run_open.specs.declared.error.TextFail.TheVariants as text_fail
use Rattle.conc_run_state.specs.Disks.{Disks}
use Rattle.conc_run_state.specs.declared.error.HistoryFail.TheVariants as history_fail
use Rattle.conc_top.specs.declared.exit.Exit.{Exit}
use Rattle.conc_top.specs.declared.exit.Exit.TheVariants as exit
use Rattle.conc_top.specs.Printing.{Prints, Sunk, TookNothing}

-- nothing was written to the disk: what is read of it stays, and a crash leaves nothing that it did not leave before
pub record IsDiskUntouched (before after : DiskState) : Type 0 where
  pub stays : Stays before after
  pub survives : LeavesOnly before.may_leave before after

-- ---- how requests stand

-- the table of the requests of the plan as they stand after the events of the journal
pub record IsStatusText (plan : Plan) (digests : Digests) (journal : DiskState) (text : List ℕ) : Type 0 where
  pub events : List Event
  pub listed : IsListed plan digests journal events
  pub text_is : text ≡ table_text plan (reverse events)

abbrev pub StatusEnds : Plan → Digests → DiskState → DiskState → Sunk → Exit → Type 0
StatusEnds plan digests old new sink exit.NotJournal = HasListCause plan digests old new history_fail.NotJournal × TookNothing sink
StatusEnds plan digests old new sink (exit.OtherInput found given) =
    HasListCause plan digests old new (history_fail.OtherInput found given) × TookNothing sink
StatusEnds plan digests old new sink (exit.OtherScript command found given) =
    HasListCause plan digests old new (history_fail.OtherScript command found given) × TookNothing sink
StatusEnds plan digests old new sink (exit.Unlawful number) = HasListCause plan digests old new (history_fail.Unlawful number) × TookNothing sink
StatusEnds plan digests old new sink (exit.DiskFault disk) = HasListCause plan digests old new (history_fail.DiskFault disk) × TookNothing sink
StatusEnds plan digests old new sink end = Prints (IsStatusText plan digests old) sink end

-- ---- a report

abbrev pub OutputEnds : Plan → Digests → RequestId → Disks → Sunk → Exit → Type 0
OutputEnds plan digests id d sink exit.NotJournal = HasReadCause plan digests d history_fail.NotJournal × TookNothing sink
OutputEnds plan digests id d sink (exit.OtherInput found given) =
    HasReadCause plan digests d (history_fail.OtherInput found given) × TookNothing sink
OutputEnds plan digests id d sink (exit.OtherScript command found given) =
    HasReadCause plan digests d (history_fail.OtherScript command found given) × TookNothing sink
OutputEnds plan digests id d sink (exit.Unlawful number) = HasReadCause plan digests d (history_fail.Unlawful number) × TookNothing sink
OutputEnds plan digests id d sink (exit.DiskFault disk) = HasReadCause plan digests d (history_fail.DiskFault disk) × TookNothing sink
OutputEnds plan digests id d sink (exit.NotEnded number) =
    HasTextCause plan digests id d text_fail.NotEnded × (number ≡ id.number) × TookNothing sink
OutputEnds plan digests id d sink end = Prints (HasText plan digests id d.journal_before d.spool_before) sink end
