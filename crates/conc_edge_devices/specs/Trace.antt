-- A trace: the changes of a disk since its start.
use Rattle.std.specs.Prelude.{◌≡◌, ℕ, ◌≤◌, List, [], ◌∷◌, length, take, Bool, true, false, ◌&&◌, nat_le, nat_lt, if◌then◌else◌, Option, Some, None, Vec}
use Rattle.std.specs.declared.alloc.Global.{Global}
use Rattle.conc_disk.specs.Disk.{written, Torn, Shortened}
use Rattle.conc_edge_devices.specs.declared.trace.Act.{Act}
use Rattle.conc_edge_devices.specs.declared.trace.Act.TheVariants.{Write, Cut, Sync}
use Rattle.conc_edge_devices.specs.declared.trace.Change.{Change}

-- ---- what a read gives

-- after this act
abbrev pub after_act : Act → List ℕ → List ℕ
after_act (Write at bytes) seen = written at bytes.items seen
after_act (Cut len) seen = take len seen
after_act Sync seen = seen

-- after these changes
abbrev pub after : List Change → List ℕ → List ℕ
after [] seen = seen
after (change ∷ changes) seen = after changes (after_act change.act seen)

-- a write begins at most at the end
abbrev pub act_fits : Act → List ℕ → Bool
act_fits (Write at bytes) seen = nat_le at (length seen)
act_fits (Cut len) seen = true
act_fits Sync seen = true

abbrev pub all_fit : List Change → List ℕ → Bool
all_fit [] seen = true
all_fit (change ∷ changes) seen = act_fits change.act seen && all_fit changes (after_act change.act seen)

-- ---- what a crash may leave

-- where this is seen, the act may leave the second image of the first
abbrev pub ActLeaves : Act → List ℕ → List ℕ → List ℕ → Type 0
ActLeaves (Write at bytes) seen image next = Torn at (length bytes.items) image next
ActLeaves (Cut len) seen image next = Shortened len image next
ActLeaves Sync seen image next = next ≡ seen

-- where this is seen, the changes may leave the second image of the first
abbrev pub Leaves : List Change → List ℕ → List ℕ → List ℕ → Type 0
Leaves [] seen image last = last ≡ image
Leaves (change ∷ changes) seen image last = (next : List ℕ) × ActLeaves change.act seen image next × Leaves changes (after_act change.act seen) next last

-- some of the first changes, at least t of them, may leave this image
abbrev pub LeavesSince : List Change → List ℕ → ℕ → List ℕ → Type 0
LeavesSince changes start t image = (k : ℕ) × (t ≤ k) × (k ≤ length changes) × Leaves (take k changes) start start image

-- ---- up to a call

abbrev pub is_sync : Act → Bool
is_sync (Write at bytes) = false
is_sync (Cut len) = false
is_sync Sync = true

-- A crash in the call with this number has this change begun. A sync that is cut off counts for nothing.
abbrev pub is_begun : ℕ → Change → Bool
is_begun call change = if is_sync change.act then nat_lt change.number call else nat_le change.number call

-- the changes up to the first that is not begun
abbrev pub begun_in : ℕ → List Change → List Change
begun_in call [] = []
begun_in call (change ∷ changes) = if is_begun call change then change ∷ begun_in call changes else []

-- ---- of a trace

-- what was there at the start: a copy is made at the first change
abbrev pub start_of : Option (Vec ℕ Global) → List ℕ → List ℕ
start_of None bytes = bytes
start_of (Some first) bytes = first.items
