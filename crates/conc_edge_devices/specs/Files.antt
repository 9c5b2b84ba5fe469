-- A disk over a file.
use Rattle.std.specs.Prelude.{Bool, IsErr, IsTrue, Result}
use Rattle.conc_disk.specs.Disk.{DiskState, exposes_nothing}
use Rattle.conc_outside.specs.declared.error.Failed.{Failed}
use Rattle.conc_edge_devices.specs.declared.file.FileDisk.{FileDisk}

module _ {F : Type 0} where
  -- it exposes nothing but its faults
  abbrev pub file_state : FileDisk F → DiskState
  file_state disk = exposes_nothing disk.faults.count

  -- a sync has failed
  abbrev pub is_broken : FileDisk F → Bool
  is_broken disk = disk.broken

  -- a call that keeps what any disk promises of it, and fails after a sync that failed
  pub record CallsFile {T : Type 0} (Promises : DiskState → DiskState → Result T Failed → Type 0) (old new : FileDisk F) (result : Result T Failed) : Type 0 where
    pub promises : Promises (file_state old) (file_state new) result
    pub broken : IsTrue (is_broken old) → IsErr result
