-- Why events could not be appended to the journal of a disk.
use Rattle.std.specs.Prelude.{ℕ, ◌+◌, ◌<◌, length, ⊤, IfSome, IsFalse, IsSome}
use Rattle.conc_outside.specs.Counts.{Rose}
use Rattle.conc_disk.specs.Disk.{DiskState}
use Rattle.conc_journal.specs.Opens.{broken_of, events_of, may_open}
use Rattle.conc_journal_image.specs.declared.layout.TheConstants.{MOST_RECORDS}
use Rattle.conc_test_bench_append.specs.declared.Fail.{Fail}
use Rattle.conc_test_bench_append.specs.declared.Fail.TheVariants.{Words, File, NotJournal, Broken, Full, Disk, NoMemory}

-- the cause of a failure to append so many events, between the disk before and after; words and file are read before
abbrev pub HasCause : DiskState → DiskState → ℕ → Fail → Type 0
HasCause old new count Words = ⊥
HasCause old new count File = ⊥
HasCause old new count NotJournal = IfSome old.seen (λ image. IsFalse (may_open image))
HasCause old new count Broken = IfSome old.seen (λ image. IsSome (broken_of image))
HasCause old new count Full = IfSome old.seen (λ image. MOST_RECORDS < length (events_of image) + count)
HasCause old new count Disk = Rose old.faults new.faults
HasCause old new count NoMemory = ⊤
