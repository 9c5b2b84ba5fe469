-- What is read of a journal alone.
use Rattle.std.specs.Prelude.{◌≡◌, ◌⊎◌, ℕ, ◌-◌, List, Option, None, Some, take, IfSome, IsFalse, ⊤}
use Rattle.conc_types.specs.declared.digests.Digests.{Digests}
use Rattle.conc_types.specs.declared.event.Event.{Event}
use Rattle.conc_types.specs.declared.plan.Plan.{Plan}
use Rattle.conc_outside.specs.Counts.{Rose}
use Rattle.conc_disk.specs.Disk.{DiskState}
use Rattle.conc_base_law.specs.Law.{LawfulSoFar}
use Rattle.conc_journal.specs.Opens.{broken_of, events_of, may_open}
use Rattle.conc_restart.specs.FirstBad.{IsFirstUnlawful}
use Rattle.conc_run_state.specs.Causes.{IsOther, IsOtherScript}
use Rattle.conc_run_state.specs.Handed.{IsOwnJournal}
use Rattle.conc_run_state.specs.declared.error.HistoryFail.{HistoryFail}
use Rattle.conc_run_state.specs.declared.error.HistoryFail.TheVariants as history_fail
use Rattle.conc_run_state.specs.declared.error.DiskName.TheVariants as disk_name

-- the journal is this input's and good, and these are its events
pub record IsListed (plan : Plan) (digests : Digests) (disk : DiskState) (events : List Event) : Type 0 where
  pub so_far : LawfulSoFar plan events
  pub own : IfSome disk.seen (IsOwnJournal plan digests)
  pub whole : IfSome disk.seen (λ image. broken_of image ≡ None)
  pub events_are : IfSome disk.seen (λ image. events ≡ events_of image)

-- the record with this number, from 1, is broken, or its event may not follow; and each event before it may
pub record IsBadEvent (plan : Plan) (events : List Event) (broken : Option ℕ) (number : ℕ) : Type 0 where
  pub bad : (broken ≡ Some number) ⊎ IsFirstUnlawful plan events number
  pub so_far : LawfulSoFar plan (take (number - 1) events)

-- an event is bad, or there is no memory
abbrev pub IsUnlisted : Plan → List Event → Option ℕ → HistoryFail → Type 0
IsUnlisted plan events broken (history_fail.Unlawful number) = IsBadEvent plan events broken number
IsUnlisted plan events broken history_fail.NoMemory = ⊤
IsUnlisted plan events broken _ = ⊥

-- the journal is this input's, and its record with this number is the first that is bad
pub record HasBadEvent (plan : Plan) (digests : Digests) (disk : DiskState) (number : ℕ) : Type 0 where
  pub own : IfSome disk.seen (IsOwnJournal plan digests)
  pub bad : IfSome disk.seen (λ image. IsBadEvent plan (events_of image) (broken_of image) number)

-- the cause of each answer where no events are given; want of memory needs none
abbrev pub HasListCause : Plan → Digests → DiskState → DiskState → HistoryFail → Type 0
HasListCause plan digests old new history_fail.NotJournal = IfSome old.seen (λ image. IsFalse (may_open image))
HasListCause plan digests old new (history_fail.OtherInput found given) = IfSome old.seen (IsOther digests found given)
HasListCause plan digests old new (history_fail.OtherScript command found given) = IfSome old.seen (IsOtherScript plan digests command found given)
HasListCause plan digests old new (history_fail.Unlawful number) = HasBadEvent plan digests old number
HasListCause plan digests old new (history_fail.DiskFault disk_name.Journal) = Rose old.faults new.faults
HasListCause plan digests old new history_fail.NoMemory = ⊤
HasListCause plan digests old new _ = ⊥
