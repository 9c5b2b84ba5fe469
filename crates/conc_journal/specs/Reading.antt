-- What reading does to a disk, and what it fails for.
use Rattle.conc_disk.specs.Disk.{DiskState, Stays}
use Rattle.conc_disk.specs.Left.{LeavesOnly}
use Rattle.conc_disk.specs.declared.error.ReadBack.{ReadBack}
use Rattle.conc_disk.specs.declared.error.ReadBack.TheVariants as read_back
use Rattle.conc_journal.specs.declared.error.JournalFail.{JournalFail}
use Rattle.conc_journal.specs.declared.error.JournalFail.TheVariants as journal_fail

-- why a journal is not opened whose bytes are not read back for this
abbrev pub of_read : ReadBack → JournalFail
of_read read_back.DiskFault = journal_fail.DiskFault
of_read read_back.NoMemory = journal_fail.NoMemory

-- what is read of it stays, and a crash leaves nothing that it did not leave before
pub record WasRead (old new : DiskState) : Type 0 where
  pub stays : Stays old new
  pub survives : LeavesOnly old.may_leave old new
