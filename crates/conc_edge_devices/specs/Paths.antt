-- A disk over the file at a path.
use Rattle.std.specs.Prelude.{◌≡◌, Bool, IfSome, IsErr, IsSomeAnd, IsTrue, Result}
use Rattle.conc_disk.specs.Disk.{DiskState, exposes_nothing}
use Rattle.conc_outside.specs.declared.error.Failed.{Failed}
use Rattle.conc_edge_devices.specs.Files.{is_broken}
use Rattle.conc_edge_devices.specs.declared.path.PathDisk.{PathDisk}

module _ {R F D : Type 0} where
  -- it exposes nothing but its faults
  abbrev pub path_state : PathDisk R F D → DiskState
  path_state disk = exposes_nothing disk.faults.count

  -- a sync of the open file has failed
  abbrev pub IsBroken : PathDisk R F D → Type 0
  IsBroken disk = IsSomeAnd disk.disk (λ file. IsTrue (is_broken file))

  -- where the file was open, it is open, and broken exactly as this says of it before
  abbrev pub BreaksAs : (Bool → Bool) → PathDisk R F D → PathDisk R F D → Type 0
  BreaksAs says old new = IfSome old.disk (λ before. IsSomeAnd new.disk (λ after. is_broken after ≡ says (is_broken before)))

  -- a call that keeps what any disk promises of it, fails after a sync that failed, and leaves the file broken as this says
  pub record CallsPath {T : Type 0} (Promises : DiskState → DiskState → Result T Failed → Type 0) (says : Bool → Bool) (old new : PathDisk R F D) (result : Result T Failed) : Type 0 where
    pub promises : Promises (path_state old) (path_state new) result
    pub broken : IsBroken old → IsErr result
    pub breaks : BreaksAs says old new
