-- What a call may have left on a disk.
use Rattle.std.specs.Prelude.{◌≡◌, ◌⊎◌, ℕ, ◌≤◌, List, Some, is_some, IfSome}
use Rattle.conc_disk.specs.Disk.{DiskState, Torn, written}

-- where the disk exposes its bytes, each image now is of this kind
abbrev pub EachImage : (List ℕ → Type 0) → DiskState → Type 0
EachImage kind disk = IfSome disk.seen (λ bytes. (image : List ℕ) → disk.may_leave image → kind image)

-- Faults and moments do not fall, and what it exposes it goes on exposing. A crash since an earlier moment left
-- what it may have left before the call, or, where the disk exposes its bytes, an image of this kind; and what it may
-- have left before still counts.
pub record LeavesOnly (kind : List ℕ → Type 0) (old new : DiskState) : Type 0 where
  pub faults : old.faults ≤ new.faults
  pub moment : old.moment ≤ new.moment
  pub exposes : is_some new.seen ≡ is_some old.seen
  pub earlier_stay : (t : ℕ) (c : List ℕ) → t ≤ old.moment → old.left_since t c → new.left_since t c
  pub nothing_else : IfSome old.seen (λ bytes. (t : ℕ) (c : List ℕ) → t ≤ old.moment → new.left_since t c → old.left_since t c ⊎ kind c)

-- ---- one write

-- an image before, with any bytes in this range of n
abbrev pub TornFrom : DiskState → ℕ → ℕ → List ℕ → Type 0
TornFrom old at n image = (before : List ℕ) × old.may_leave before × Torn at n before image

-- where the disk exposes its bytes, a read gives what it gave with these bytes from here on, and each image now is that
abbrev pub HasWritten : ℕ → List ℕ → DiskState → DiskState → Type 0
HasWritten at bytes old new = IfSome old.seen (λ before. (new.seen ≡ Some (written at bytes before)) × ((image : List ℕ) → new.may_leave image → image ≡ written at bytes before))
