-- Why no life begins.
use Rattle.std.specs.Prelude.{◌≡◌, ◌⊎◌, ℕ, ◌+◌, ◌<◌, ◌≤◌, List, length, Option, None, IfSome, IsFalse, ⊤}
use Rattle.conc_types.specs.declared.digests.Digests.{Digests}
use Rattle.conc_types.specs.declared.event.Event.{Event}
use Rattle.conc_types.specs.declared.plan.Plan.{Plan}
use Rattle.conc_types.specs.declared.script.Reading.{Reading}
use Rattle.conc_outside.specs.Counts.{Rose}
use Rattle.conc_disk.specs.Disk.{DiskState}
use Rattle.conc_base_law.specs.Law.{LawfulSoFar}
use Rattle.conc_journal.specs.Opens.{may_open}
use Rattle.conc_journal_image.specs.declared.layout.TheConstants.{MOST_RECORDS}
use Rattle.conc_restart.specs.Need.{need}
use Rattle.conc_run_state.specs.Causes.{IsOther, IsOtherScript}
use Rattle.conc_run_state.specs.Judging.{IsBadFor, IsBadRecord}
use Rattle.conc_run_state.specs.declared.error.HistoryFail.{HistoryFail}
use Rattle.conc_run_state.specs.declared.error.HistoryFail.TheVariants as history_fail
use Rattle.conc_run_state.specs.declared.error.DiskName.TheVariants as disk_name
use Rattle.conc_run_open.specs.Extents.{counted}

-- this is no journal, or that of another input or another script, or its disk failed, or there is no memory
abbrev pub IsUnopened : Plan → Digests → DiskState → DiskState → HistoryFail → Type 0
IsUnopened plan digests old new history_fail.NotJournal = IfSome old.seen (λ image. IsFalse (may_open image))
IsUnopened plan digests old new (history_fail.OtherInput found given) = IfSome old.seen (IsOther digests found given)
IsUnopened plan digests old new (history_fail.OtherScript command found given) = IfSome old.seen (IsOtherScript plan digests command found given)
IsUnopened plan digests old new (history_fail.DiskFault disk_name.Journal) = Rose old.faults new.faults
IsUnopened plan digests old new history_fail.NoMemory = ⊤
IsUnopened plan digests old new _ = ⊥

-- a record is bad for a spool of so many bytes, or there is no memory
abbrev pub IsRefused : Plan → ℕ → List Event → Option ℕ → HistoryFail → Type 0
IsRefused plan len events broken (history_fail.Unlawful number) = IsBadRecord plan len events broken number
IsRefused plan len events broken history_fail.NoMemory = ⊤
IsRefused plan len events broken _ = ⊥

-- for this spool a record is bad, or its disk failed, or there is no memory
abbrev pub IsUnreadable : Plan → List Event → Option ℕ → DiskState → DiskState → HistoryFail → Type 0
IsUnreadable plan events broken old new (history_fail.Unlawful number) = IsBadFor plan old events broken number
IsUnreadable plan events broken old new (history_fail.DiskFault disk_name.Spool) = Rose old.faults new.faults
IsUnreadable plan events broken old new history_fail.NoMemory = ⊤
IsUnreadable plan events broken old new _ = ⊥

-- there is no room for one more life, or no memory
abbrev pub LacksRoom : Plan → List Reading → List Event → HistoryFail → Type 0
LacksRoom plan readings events (history_fail.JournalFull len needed) =
    (len ≡ length events) × (needed ≡ need plan readings) × (MOST_RECORDS < len + needed)
LacksRoom plan readings events history_fail.NoMemory = ⊤
LacksRoom plan readings events _ = ⊥

-- the events are good, and there is no room for one more life
pub record IsGoodButLacksRoom (plan : Plan) (readings : List Reading) (events : List Event) (broken : Option ℕ) (e : HistoryFail) : Type 0 where
  pub so_far : LawfulSoFar plan events
  pub whole : broken ≡ None
  pub lacks_room : LacksRoom plan readings events e

-- where the spool has all extents, a record is bad, or there is no room, or no memory
abbrev pub CannotBegin : Plan → List Reading → List Event → Option ℕ → HistoryFail → Type 0
CannotBegin plan readings events broken e =
    ((len : ℕ) → counted events ≤ len → IsRefused plan len events broken e) ⊎ IsGoodButLacksRoom plan readings events broken e
