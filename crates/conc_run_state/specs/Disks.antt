-- The two disks of a run, before and after.
use Rattle.conc_disk.specs.Disk.{DiskState, Stays}
use Rattle.conc_disk.specs.Left.{LeavesOnly}

pub record Disks : Type 1 where
  pub journal_before : DiskState
  pub journal_after : DiskState
  pub spool_before : DiskState
  pub spool_after : DiskState

abbrev pub disks : DiskState → DiskState → DiskState → DiskState → Disks
disks journal journal' spool spool' = record {
  journal_before = journal;
  journal_after = journal';
  spool_before = spool;
  spool_after = spool';
}

-- nothing was written: what is read of them stays, and a crash leaves nothing that it did not leave before
pub record AreUntouched (d : Disks) : Type 0 where
  pub journal : Stays d.journal_before d.journal_after
  pub journal_survives : LeavesOnly d.journal_before.may_leave d.journal_before d.journal_after
  pub spool : Stays d.spool_before d.spool_after
  pub spool_survives : LeavesOnly d.spool_before.may_leave d.spool_before d.spool_after
