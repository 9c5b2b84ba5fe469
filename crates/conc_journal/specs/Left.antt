-- What a write that is synced leaves on a disk.
use Rattle.std.specs.Prelude.{◌≡◌, ◌⊎◌, ℕ, ◌+◌, ◌<◌, ◌≤◌, List, [], ◌∷◌, length}
use Rattle.conc_disk.specs.Disk.{DiskState, Torn, written}
use Rattle.conc_disk.specs.Left.{EachImage}

-- ---- one write and a sync

-- where the disk exposes its bytes, each image now is one before with these bytes from here on
abbrev pub LeavesWritten : ℕ → List ℕ → DiskState → DiskState → Type 0
LeavesWritten at bytes old new = EachImage (λ image. (before : List ℕ) × old.may_leave before × (at ≤ length before) × (image ≡ written at bytes before)) new

-- ---- a record that is written behind its gate, before the gate is written

-- the record is torn, or it is whole and its gate here is torn
abbrev pub AddsTo : ℕ → List ℕ → List ℕ → List ℕ → Type 0
AddsTo at spelled before after = Torn (at + 1) (length spelled) before after ⊎ Torn at 1 (written (at + 1) spelled before) after

-- an image before, to which the record is being added
abbrev pub AddedFrom : DiskState → ℕ → List ℕ → List ℕ → Type 0
AddedFrom old at spelled image = (before : List ℕ) × old.may_leave before × AddsTo at spelled before image

-- where the disk exposes its bytes, each image now is one before with the record behind an open gate
abbrev pub LeavesAdded : ℕ → List ℕ → DiskState → DiskState → Type 0
LeavesAdded at spelled old new = EachImage (λ image. (before : List ℕ) × old.may_leave before × (at < length before) × (image ≡ written at (1 ∷ []) (written (at + 1) spelled before))) new
