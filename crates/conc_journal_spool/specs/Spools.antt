-- A spool and its disk.
use Rattle.std.specs.Prelude.{◌≡◌, ℕ, ◌<◌, ◌≤◌, List, length, take, IfSome, ⊤}
use Rattle.conc_disk.specs.Disk.{DiskState, HasLength}
use Rattle.conc_journal_spool.specs.declared.error.SpoolFail.{SpoolFail}
use Rattle.conc_journal_spool.specs.declared.error.SpoolFail.TheVariants.{DiskFault, Short}
use Rattle.conc_journal_spool.specs.declared.spool.Spool.{Spool}

-- how many bytes its texts have
abbrev pub used_of : Spool → ℕ
used_of spool = spool.used

-- the second has the first n bytes of the first
pub record Agrees (n : ℕ) (bytes image : List ℕ) : Type 0 where
  pub no_shorter : n ≤ length image
  pub front : take n image ≡ take n bytes

-- The spool's disk is on: where it exposes its bytes, each image now has the bytes of the texts as a read gives them.
abbrev pub IsOn : Spool → DiskState → Type 0
IsOn spool disk = IfSome disk.seen (λ bytes. (image : List ℕ) → disk.may_leave image → Agrees spool.used bytes image)

-- where the disk exposes its bytes, the image has its first n bytes
abbrev pub KeepsBelow : ℕ → DiskState → List ℕ → Type 0
KeepsBelow n disk image = IfSome disk.seen (λ bytes. Agrees n bytes image)

-- a spool of so many bytes finds the disk shorter, and tells its length
abbrev pub IsShort : ℕ → DiskState → SpoolFail → Type 0
IsShort used disk (Short len) = (len < used) × HasLength disk len
IsShort used disk DiskFault = ⊤
