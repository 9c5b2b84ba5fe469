-- What a failure below says of the history.
use Rattle.std.proofs.Common.{ℕ, ◌≤◌, List, Option, Err, IfSome, refl}
use Rattle.std.specs.Prelude.{IsErrOf, IsFalse}
use Rattle.conc_types.specs.declared.digests.Digests.{Digests}
use Rattle.conc_types.specs.declared.error.CheckFail.{CheckFail}
use Rattle.conc_types.specs.declared.error.CheckFail.TheVariants as check_fail
use Rattle.conc_types.specs.declared.event.Event.{Event}
use Rattle.conc_types.specs.declared.plan.Plan.{Plan}
use Rattle.conc_outside.specs.Counts.{Rose}
use Rattle.conc_disk.specs.Disk.{DiskState}
use Rattle.conc_journal.specs.Opens.{may_open}
use Rattle.conc_journal.specs.declared.error.JournalFail.{JournalFail}
use Rattle.conc_journal.specs.declared.error.JournalFail.TheVariants as journal_fail
use Rattle.conc_disk.specs.declared.error.ReadBack.{ReadBack}
use Rattle.conc_disk.specs.declared.error.ReadBack.TheVariants as read_back
use Rattle.conc_restart.specs.FirstBad.{IsListRefused}
use Rattle.conc_run_state.specs.Disks.{Disks}
use Rattle.conc_run_state.specs.Fails.{of_check, of_journal, of_read}
use Rattle.conc_run_state.specs.Handed.{IsOwnJournal}
use Rattle.conc_run_open.specs.Extents.{counted}
use Rattle.conc_run_open.specs.Listing.{IsUnlisted}
use Rattle.conc_run_open.specs.Refusals.{IsRefused, IsUnopened}
use Rattle.conc_run_open.specs.Texts.{HasReadCause}
use Rattle.conc_run_open.proofs.Bad.{bad-only, event-first}

-- the journal was not opened
pub unopened : {T : Type 0} (plan : Plan) (digests : Digests) (old new : DiskState) (fail : JournalFail) → (IsErrOf {T = T} (Err fail) journal_fail.NotJournal → IfSome old.seen (λ image. IsFalse (may_open image)))
    → (IsErrOf {T = T} (Err fail) journal_fail.DiskFault → Rose old.faults new.faults) → IsUnopened plan digests old new (of_journal fail)
unopened plan digests old new journal_fail.NotJournal not_journal fault = not_journal refl
unopened plan digests old new journal_fail.DiskFault not_journal fault = fault refl
unopened plan digests old new journal_fail.NoMemory not_journal fault = tt

-- the list was refused
pub check-unlisted : (plan : Plan) (events : List Event) (broken : Option ℕ) (fail : CheckFail) → IsListRefused plan events fail → IsUnlisted plan events broken (of_check fail)
check-unlisted plan events broken (check_fail.Unlawful position) is = event-first plan events broken position is
check-unlisted plan events broken check_fail.NoMemory is = tt

pub check-refused : (plan : Plan) (events : List Event) (broken : Option ℕ) (fail : CheckFail) → IsListRefused plan events fail → (len : ℕ) → counted events ≤ len → IsRefused plan len events broken (of_check fail)
check-refused plan events broken (check_fail.Unlawful position) is len far = bad-only plan len events broken position is far
check-refused plan events broken check_fail.NoMemory is len far = tt

-- the text was not read
pub unread : {T : Type 0} (plan : Plan) (digests : Digests) (d : Disks) (fail : ReadBack) → IfSome d.journal_before.seen (IsOwnJournal plan digests)
    → (IsErrOf {T = T} (Err fail) read_back.DiskFault → Rose d.spool_before.faults d.spool_after.faults) → HasReadCause plan digests d (of_read fail)
unread plan digests d read_back.DiskFault own fault = (own, fault refl)
unread plan digests d read_back.NoMemory own fault = tt
