-- What is read of a report's text.
use Rattle.std.specs.Prelude.{◌≡◌, ℕ, if◌then◌else◌, List, length, Option, None, Some, slice_get, IfSome, IsFalse, ⊤}
use Rattle.conc_types.specs.declared.digests.Digests.{Digests}
use Rattle.conc_types.specs.declared.event.Event.{Event}
use Rattle.conc_types.specs.declared.event.Event.TheVariants as event
use Rattle.conc_types.specs.declared.event.Extent.{Extent}
use Rattle.conc_types.specs.declared.event.Outcome.{Outcome}
use Rattle.conc_types.specs.declared.event.RequestId.{RequestId}
use Rattle.conc_types.specs.declared.plan.Plan.{Plan}
use Rattle.conc_outside.specs.Counts.{Rose}
use Rattle.conc_disk.specs.Disk.{DiskState, HasAt}
use Rattle.conc_base_law.specs.Words.{id_eq}
use Rattle.conc_journal.specs.Opens.{broken_of, events_of, may_open}
use Rattle.conc_run_state.specs.Causes.{IsOther, IsOtherScript}
use Rattle.conc_run_state.specs.Disks.{Disks}
use Rattle.conc_run_state.specs.Handed.{IsOwnJournal}
use Rattle.conc_run_state.specs.Judging.{EndWithin, IsBadFor}
use Rattle.conc_run_state.specs.declared.error.HistoryFail.{HistoryFail}
use Rattle.conc_run_state.specs.declared.error.HistoryFail.TheVariants as history_fail
use Rattle.conc_run_state.specs.declared.error.DiskName.TheVariants as disk_name
use Rattle.conc_run_open.specs.Listing.{IsListed}
use Rattle.conc_run_open.specs.declared.error.TextFail.{TextFail}
use Rattle.conc_run_open.specs.declared.error.TextFail.TheVariants as text_fail

-- ---- ends

-- one of these events is an end of the request with this extent
pub record HasEnd (events : List Event) (id : RequestId) (extent : Extent) : Type 0 where
  pub position : ℕ
  pub outcome : Outcome
  pub there : slice_get events position ≡ Some (event.Ended id outcome (Some extent))

-- none of them is an end of the request with an extent
abbrev pub HasNoEnd : List Event → RequestId → Type 0
HasNoEnd events id = (i : ℕ) (o : Outcome) (x : Extent) → slice_get events i ≡ Some (event.Ended id o (Some x)) → ⊥

-- the extent of this event, where it is an end of the request
abbrev pub report_in : Event → RequestId → Option Extent
report_in (event.Ended request o x) id = if id_eq request id then x else None
report_in e id = None

-- ---- what is found

-- the journal is this input's and good, and these are its events, whose extents end within the spool
pub record AreWhole (plan : Plan) (digests : Digests) (journal spool : DiskState) (events : List Event) : Type 0 where
  pub listed : IsListed plan digests journal events
  pub within : IfSome spool.seen (λ texts. EndWithin (length texts) events)

-- these are the bytes of the spool at the extent of an end of the request
pub record HasText (plan : Plan) (digests : Digests) (id : RequestId) (journal spool : DiskState) (bytes : List ℕ) : Type 0 where
  pub events : List Event
  pub whole : AreWhole plan digests journal spool events
  pub extent : Extent
  pub ended : HasEnd events id extent
  pub long : length bytes ≡ extent.length
  pub text : HasAt spool extent.offset bytes

-- the request has no end with an extent
pub record HasNotEnded (plan : Plan) (digests : Digests) (id : RequestId) (journal spool : DiskState) : Type 0 where
  pub events : List Event
  pub whole : AreWhole plan digests journal spool events
  pub none : HasNoEnd events id

-- ---- why no text is given

-- the journal is this input's, and, where it exposes its bytes, its record with this number is the first that is bad
pub record HasBadRecord (plan : Plan) (digests : Digests) (journal spool : DiskState) (number : ℕ) : Type 0 where
  pub own : IfSome journal.seen (IsOwnJournal plan digests)
  pub bad : IfSome journal.seen (λ image. IsBadFor plan spool (events_of image) (broken_of image) number)

-- the cause of each answer before an end is sought, and of a fault; want of memory needs none
abbrev pub HasReadCause : Plan → Digests → Disks → HistoryFail → Type 0
HasReadCause plan digests d history_fail.NotJournal = IfSome d.journal_before.seen (λ image. IsFalse (may_open image))
HasReadCause plan digests d (history_fail.OtherInput found given) = IfSome d.journal_before.seen (IsOther digests found given)
HasReadCause plan digests d (history_fail.OtherScript command found given) = IfSome d.journal_before.seen (IsOtherScript plan digests command found given)
HasReadCause plan digests d (history_fail.Unlawful number) = HasBadRecord plan digests d.journal_before d.spool_before number
HasReadCause plan digests d (history_fail.DiskFault disk_name.Journal) = Rose d.journal_before.faults d.journal_after.faults
HasReadCause plan digests d (history_fail.DiskFault disk_name.Spool) =
    IfSome d.journal_before.seen (IsOwnJournal plan digests) × Rose d.spool_before.faults d.spool_after.faults
HasReadCause plan digests d history_fail.NoMemory = ⊤
HasReadCause plan digests d (history_fail.JournalFull len needed) = ⊥

abbrev pub HasTextCause : Plan → Digests → RequestId → Disks → TextFail → Type 0
HasTextCause plan digests id d text_fail.NotEnded = HasNotEnded plan digests id d.journal_before d.spool_before
HasTextCause plan digests id d (text_fail.NoHistory e) = HasReadCause plan digests d e
