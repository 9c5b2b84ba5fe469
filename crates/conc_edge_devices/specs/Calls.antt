-- The calls of a disk in memory, and which of them fail.
use Rattle.std.specs.Prelude.{◌≡◌, ◌⊎◌, ℕ, ◌+◌, ◌<◌, ◌≤◌, min, List, Bool, Result, IsErr, IsTrue}
use Rattle.conc_outside.specs.Counts.{Rose}
use Rattle.conc_disk.specs.Disk.{DiskState}
use Rattle.conc_edge_devices.specs.Faults.{is_listed}
use Rattle.conc_edge_devices.specs.Grows.{LeavesInCall, seen_in_call, start}
use Rattle.conc_edge_devices.specs.Memory.{exposed}
use Rattle.conc_edge_devices.specs.declared.memory.MemDisk.{MemDisk}

-- what it exposes
abbrev pub state_of : MemDisk → DiskState
state_of disk = exposed (start disk.trace) disk.trace.bytes.items disk.trace.changes.items disk.counts.faults

-- the numbers of the calls that are to fail
abbrev pub fails_of : MemDisk → List ℕ
fails_of disk = disk.counts.fails.items

-- how many calls there were, in 64 bits: the number of the coming one
abbrev pub calls_of : MemDisk → ℕ
calls_of disk = disk.counts.calls

-- how often a call found no memory
abbrev pub starved_of : MemDisk → ℕ
starved_of disk = disk.counts.starved

-- the coming call is one of those that are to fail
abbrev pub coming_fails : MemDisk → Bool
coming_fails disk = is_listed disk.counts

-- a crash in the call with this number may leave this image
abbrev pub MayLeaveIn : MemDisk → ℕ → List ℕ → Type 0
MayLeaveIn disk call image = LeavesInCall disk.trace call image

-- what a read gives where all that was begun up to this call is done
abbrev pub seen_in : MemDisk → ℕ → List ℕ
seen_in disk call = seen_in_call disk.trace call

-- The call is counted, and fails exactly where it is listed or finds no memory.
pub record FailsAsListed {T E : Type 0} (old new : MemDisk) (result : Result T E) : Type 0 where
  pub call : calls_of new ≡ min (calls_of old + 1) 18446744073709551615
  pub fails : fails_of new ≡ fails_of old
  pub starved : starved_of old ≤ starved_of new
  pub cause : IsErr result → IsTrue (coming_fails old) ⊎ Rose (starved_of old) (starved_of new)
  pub listed : IsTrue (coming_fails old) → IsErr result
  pub want : starved_of old < starved_of new → IsErr result
