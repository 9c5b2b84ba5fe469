-- Why the bytes that were read are refused: the first rule that is broken.
use Rattle.std.specs.Prelude.{◌≡◌, ◌⊎◌, ℕ, ◌+◌, nat_lt, if◌then◌else◌, List, length, Option, Some}
use Rattle.std.specs.List.{sum_by}
use Rattle.conc_types.specs.declared.kind.RefusalKind.TheVariants as refused
use Rattle.conc_types.specs.declared.refusal.FileKind.{FileKind}
use Rattle.conc_types.specs.declared.refusal.FileKind.TheVariants as kind
use Rattle.conc_types.specs.declared.refusal.Refusal.{Refusal}
use Rattle.conc_types.specs.declared.table.Table.{Table}
use Rattle.conc_types.specs.Faults.{Fault}
use Rattle.conc_outside.specs.Files.{Gives}
use Rattle.conc_plan.specs.Faults.{plan_fault}
use Rattle.conc_setup.specs.Setups.{fault_in}
use Rattle.conc_script.specs.Clock.{clock_fault}
use Rattle.conc_script.specs.Script.{script_fault}
use Rattle.conc_tables.specs.Tables.{table_fault}
use Rattle.conc_top_inputs.specs.Given.{HasAll, IsNext, Names, Exposed}

-- the first fault of a table's file, where the tables before it have so many bytes: all together have at most 134,217,728
abbrev pub fault_of_table : ℕ → List ℕ → Option Fault
fault_of_table before bytes = if nat_lt 134217728 (before + length bytes) then Some (0, refused.TooLarge) else table_fault bytes

-- this is the first fault of the bytes of the file that was next
abbrev pub HasFault : (exposed : Exposed) (names : Names) (file : FileKind) (name : List ℕ) → IsNext exposed names file name → List ℕ → Fault → Type 0
HasFault exposed names kind.Setup name next bytes fault = fault_in bytes ≡ Some fault
HasFault exposed names kind.Script name next bytes fault = script_fault next.0.setup bytes ≡ Some fault
HasFault exposed names kind.Clock name next bytes fault = clock_fault bytes ≡ Some fault
HasFault exposed names (kind.Table number) name next bytes fault = fault_of_table (sum_by length next.given.contents) bytes ≡ Some fault
HasFault exposed names kind.Repeats name next bytes fault = ⊥
HasFault exposed names kind.Parts name next bytes fault = ⊥

-- all files before were accepted, and the one that was next has this fault
pub record IsFileRefused (exposed : Exposed) (names : Names) (refusal : Refusal) (name : List ℕ) : Type 0 where
  pub next : IsNext exposed names refusal.file name
  pub bytes : List ℕ
  pub given : Gives exposed.files name bytes
  pub fault : HasFault exposed names refusal.file name next bytes (refusal.line, refusal.kind)

-- the name of the setup's or the script's file
abbrev pub name_of : List ℕ → List ℕ → FileKind → List ℕ
name_of setup script kind.Script = script
name_of setup script _ = setup

-- all files were accepted, and the plan of setup, script and tables has this fault
pub record IsPlanRefused (exposed : Exposed) (names : Names) (refusal : Refusal) (name : List ℕ) : Type 0 where
  pub tables : List Table
  pub files : HasAll exposed names tables
  pub fault : plan_fault files.before.before.before.setup files.before.before.script.commands tables ≡ Some (refusal.file, (refusal.line, refusal.kind))
  pub named : name ≡ name_of names.setup names.script refusal.file

abbrev pub IsInputRefused : Exposed → Names → Refusal → List ℕ → Type 0
IsInputRefused exposed names refusal name = IsFileRefused exposed names refusal name ⊎ IsPlanRefused exposed names refusal name
