-- Why the files give no plan, and why a single file gives no bytes.
use Rattle.std.specs.Prelude.{◌≡◌, ℕ, List, Option, None, Some, IfSome, IsTrue}
use Rattle.conc_edge_clock.specs.Clocks.{ClockState}
use Rattle.conc_types.specs.declared.refusal.FileKind.{FileKind}
use Rattle.conc_outside.specs.Counts.{Rose}
use Rattle.conc_outside.specs.Files.{file_named, Files, Lacks, ShelfState}
use Rattle.conc_top_inputs.specs.declared.error.InputFail.{InputFail}
use Rattle.conc_top_inputs.specs.declared.error.InputFail.TheVariants as input
use Rattle.conc_top_inputs.specs.Given.{HasScript, is_system, IsNext, Names, Sources, exposed_by}
use Rattle.conc_top_inputs.specs.Refusals.{IsInputRefused}

-- ---- reading the files

-- the file that was next is lacking
pub record IsAbsent (old new : Sources) (names : Names) (name : List ℕ) : Type 0 where
  pub file : FileKind
  pub next : IsNext (exposed_by old new) names file name
  pub lacking : Lacks old.shelf.files name
  pub counted : Rose old.shelf.absences new.shelf.absences

-- where the shelf exposes its files, there is one with this name
abbrev pub IsThere : Option Files → List ℕ → Type 0
IsThere exposed name = IfSome exposed (λ files. file_named files name ≡ None → ⊥)

-- the file that was next could not be read, and is not lacking
pub record IsReadFault (old new : Sources) (names : Names) (name : List ℕ) : Type 0 where
  pub file : FileKind
  pub next : IsNext (exposed_by old new) names file name
  pub there : IsThere old.shelf.files name
  pub counted : Rose old.shelf.faults new.shelf.faults

-- a clock that was asked gave no moment: it still gives what it gave, and the count of its faults rose
pub record IsSilent (old new : ClockState) : Type 0 where
  pub kept : new.moments ≡ old.moments
  pub counted : Rose old.faults new.faults

-- the files before the clock were accepted, and the clock, which is the system's, gave no moment
pub record IsClockFault (old new : Sources) (names : Names) : Type 0 where
  pub before : HasScript old.shelf.files names
  pub name : List ℕ
  pub named : names.clock ≡ Some name
  pub asked : IsTrue (is_system name)
  pub silent : IsSilent old.clock new.clock

-- The reading, old before and new after it, ended for this cause. Want of memory is the one that needs none
abbrev pub FailsWith : Sources → Sources → Names → InputFail → Type 0
FailsWith old new names (input.Refused refusal name) = IsInputRefused (exposed_by old new) names refusal name
FailsWith old new names (input.Absent name) = IsAbsent old new names name
FailsWith old new names (input.ReadFault name) = IsReadFault old new names name
FailsWith old new names input.ClockFault = IsClockFault old new names
FailsWith old new names input.NoMemory = Unit {0}

-- ---- a single file

-- the file with this name, which is lacking or could not be read, gave no bytes
abbrev pub IsUnread : ShelfState → ShelfState → List ℕ → InputFail → Type 0
IsUnread old new name (input.Absent which) = (which ≡ name) × Lacks old.files name × Rose old.absences new.absences
IsUnread old new name (input.ReadFault which) = (which ≡ name) × IsThere old.files name × Rose old.faults new.faults
IsUnread old new name input.NoMemory = Unit {0}
IsUnread old new name _ = ⊥
