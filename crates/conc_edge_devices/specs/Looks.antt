-- Disks that only look at a file.
use Rattle.conc_disk.specs.Disk.{DiskState, exposes_nothing}
use Rattle.conc_edge_devices.specs.declared.look.GrowingDisk.{GrowingDisk}
use Rattle.conc_edge_devices.specs.declared.look.SnapshotDisk.{SnapshotDisk}

module _ {R F D : Type 0} where
  -- it exposes nothing but its faults
  abbrev pub growing_state : GrowingDisk R F D → DiskState
  growing_state disk = exposes_nothing disk.faults.count

  abbrev pub snapshot_state : SnapshotDisk R F D → DiskState
  snapshot_state disk = growing_state disk.file
