-- The reads of a shelf in memory, and which of them fail.
use Rattle.std.specs.Prelude.{◌≡◌, ℕ, ◌+◌, ◌==◌, min, List, Bool, Result, Some, Vec, IsErrOf, IsOk, IsSome, IsTrue}
use Rattle.std.specs.List.{list_any}
use Rattle.std.specs.declared.alloc.Global.{Global}
use Rattle.conc_outside.specs.Files.{Files, file_named, ShelfState}
use Rattle.conc_outside.specs.Exposed.{exposed}
use Rattle.conc_outside.specs.declared.error.ShelfFail.{ShelfFail}
use Rattle.conc_outside.specs.declared.error.ShelfFail.TheVariants.{Failed}
use Rattle.conc_outside.specs.declared.memory_shelf.MemShelf.{MemShelf}

-- its files
abbrev pub files_of : MemShelf → Files
files_of shelf = exposed shelf.files.items

-- what it exposes
abbrev pub shelf_state : MemShelf → ShelfState
shelf_state shelf = record { files = Some (files_of shelf); absences = shelf.absences; faults = shelf.faults }

-- the numbers of the reads that are to fail
abbrev pub fails_of : MemShelf → List ℕ
fails_of shelf = shelf.fails.items

-- how many reads there were, in 64 bits: the number of the coming one
abbrev pub reads_of : MemShelf → ℕ
reads_of shelf = shelf.reads

-- the coming read is one of those that are to fail
abbrev pub coming_fails : MemShelf → Bool
coming_fails shelf = list_any (λ read. read == reads_of shelf) (fails_of shelf)

-- The read is counted. It is a fault exactly where it is listed and the file is there.
pub record FailsAsListed (old new : MemShelf) (name : List ℕ) (result : Result (Vec ℕ Global) ShelfFail) : Type 0 where
  pub read : reads_of new ≡ min (reads_of old + 1) 18446744073709551615
  pub fails : fails_of new ≡ fails_of old
  pub cause : IsErrOf result Failed → IsTrue (coming_fails old)
  pub listed : IsTrue (coming_fails old) → IsSome (file_named (files_of old) name) → IsErrOf result Failed
  pub no_fault : IsOk result → new.faults ≡ old.faults
