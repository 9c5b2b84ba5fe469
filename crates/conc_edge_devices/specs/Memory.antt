-- A disk in memory.
use Rattle.std.specs.Prelude.{ℕ, List, length, Some}
use Rattle.conc_disk.specs.Disk.{DiskState}
use Rattle.conc_edge_devices.specs.Trace.{Leaves, LeavesSince}
use Rattle.conc_edge_devices.specs.declared.trace.Change.{Change}

-- what a disk exposes that began with the first bytes, has the second, and has changed like this
abbrev pub exposed : List ℕ → List ℕ → List Change → ℕ → DiskState
exposed start bytes changes faults = record {
  seen = Some bytes;
  may_leave = λ image. Leaves changes start start image;
  moment = length changes;
  left_since = λ t image. LeavesSince changes start t image;
  faults = faults;
}
