-- Why one file ends the reading.
use Rattle.std.specs.Prelude.{◌≡◌, ◌⊎◌, ℕ, false, true, List, length, Option, Some, Result, Err, slice_get, take}
use Rattle.std.specs.List.{sum_by}
use Rattle.conc_edge_clock.specs.Clocks.{ClockState}
use Rattle.conc_types.specs.declared.refusal.FileKind.{FileKind}
use Rattle.conc_types.specs.declared.refusal.Refusal.{Refusal}
use Rattle.conc_types.specs.declared.refusal.FileKind.TheVariants as kind
use Rattle.conc_types.specs.declared.table.Table.{Table}
use Rattle.conc_types.specs.Faults.{Fault}
use Rattle.conc_outside.specs.Counts.{Rose}
use Rattle.conc_outside.specs.Files.{Files, Gives, Lacks, ShelfState}
use Rattle.conc_script.specs.Clock.{clock_fault}
use Rattle.conc_top_inputs.specs.declared.error.FileFail.{FileFail}
use Rattle.conc_top_inputs.specs.declared.error.FileFail.TheVariants as file_fail
use Rattle.conc_top_inputs.specs.declared.error.InputFail.{InputFail}
use Rattle.conc_top_inputs.specs.declared.error.InputFail.TheVariants as input
use Rattle.conc_top_inputs.specs.Fails.{IsSilent, IsThere}
use Rattle.conc_top_inputs.specs.Given.{HasTables, is_system, Sources}
use Rattle.conc_top_inputs.specs.Refusals.{fault_of_table}
use Rattle.conc_top_inputs.specs.Ways.{fail_at}

-- the bytes of the file were read, and have this fault
pub record WasRefused (exposed : Option Files) (has_fault : List ℕ → Fault → Type 0) (file : FileKind) (name : List ℕ) (refusal : Refusal) : Type 0 where
  pub bytes : List ℕ
  pub given : Gives exposed name bytes
  pub file_is : refusal.file ≡ file
  pub fault : has_fault bytes (refusal.line, refusal.kind)

-- the file with this name could not be read, for this cause
abbrev pub EndsUnread : ShelfState → ShelfState → List ℕ → FileFail → Type 0
EndsUnread old new name (file_fail.Refused refusal) = ⊥
EndsUnread old new name file_fail.Absent = Lacks old.files name × Rose old.absences new.absences
EndsUnread old new name file_fail.ReadFault = IsThere old.files name × Rose old.faults new.faults
EndsUnread old new name file_fail.NoMemory = Unit {0}

-- the file of this kind, under this name, ends the reading for this cause
abbrev pub Ends : ShelfState → ShelfState → (List ℕ → Fault → Type 0) → FileKind → List ℕ → FileFail → Type 0
Ends old new has_fault file name (file_fail.Refused refusal) = WasRefused old.files has_fault file name refusal
Ends old new has_fault file name s = EndsUnread old new name s

-- the failure for the file with this name, unless there was no memory for it
abbrev pub IsFailAt : FileFail → List ℕ → InputFail → Type 0
IsFailAt s name end = (end ≡ fail_at s name) ⊎ (end ≡ input.NoMemory)

-- the answer failed, and this is its failure for the file with this name
pub record IsToldOf {T : Type 0} (answer : Result T FileFail) (name : List ℕ) (end : InputFail) : Type 0 where
  pub cause : FileFail
  pub was : answer ≡ Err cause
  pub told : IsFailAt cause name end

-- ---- the clock

-- the clock gave no moment, or there was no memory for its reading
abbrev pub FailsUnshown : ClockState → ClockState → InputFail → Type 0
FailsUnshown old new input.ClockFault = IsSilent old new
FailsUnshown old new input.NoMemory = Unit {0}
FailsUnshown old new _ = ⊥

-- the clock's file ends the reading
pub record IsClockFileFail (old new : Sources) (name : List ℕ) (end : InputFail) : Type 0 where
  pub from_file : is_system name ≡ false
  pub cause : FileFail
  pub ends : Ends old.shelf new.shelf (λ bytes fault. clock_fault bytes ≡ Some fault) kind.Clock name cause
  pub is : IsFailAt cause name end

abbrev pub FailsAtClock : Sources → Sources → List ℕ → InputFail → Type 0
FailsAtClock old new name end = ((is_system name ≡ true) × FailsUnshown old.clock new.clock end) ⊎ IsClockFileFail old new name end

-- ---- tables

-- the reading of the tables with these names ended at one of them
pub record IsTableFail (old new : ShelfState) (names : List (List ℕ)) (end : InputFail) : Type 0 where
  pub number : ℕ
  pub name : List ℕ
  pub named : slice_get names number ≡ Some name
  pub tables : List Table
  pub given : HasTables old.files (take number names) tables
  pub cause : FileFail
  pub ends : Ends old new (λ bytes fault. fault_of_table (sum_by length given.contents) bytes ≡ Some fault) (kind.Table number) name cause
  pub is : end ≡ fail_at cause name

abbrev pub FailsInTables : ShelfState → ShelfState → List (List ℕ) → InputFail → Type 0
FailsInTables old new names end = (end ≡ input.NoMemory) ⊎ IsTableFail old new names end
