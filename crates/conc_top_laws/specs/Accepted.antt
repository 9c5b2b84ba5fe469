-- Files that are accepted.
use Rattle.std.specs.Prelude.{◌≡◌, ◌⊎◌, ⊤, ℕ, List, Option, None, Some, IsTrue}
use Rattle.conc_types.specs.declared.script.Readings.{Readings}
use Rattle.conc_types.specs.declared.table.Table.{Table}
use Rattle.conc_outside.specs.Files.{Files, Gives}
use Rattle.conc_plan.specs.Faults.{plan_fault}
use Rattle.conc_script.specs.Clock.{SpellsClock}
use Rattle.conc_top.specs.Answers.{Around}
use Rattle.conc_top_inputs.specs.Given.{HasScript, HasTables, is_system, Names}

-- the file with this name is there, and spells readings
pub record HasReadings (files : Files) (name : List ℕ) : Type 0 where
  pub bytes : List ℕ
  pub given : Gives (Some files) name bytes
  pub readings : Readings
  pub spells : SpellsClock bytes readings

-- no clock is named; or that of the system is, or a file that spells readings
abbrev pub IsClockAccepted : Files → Option (List ℕ) → Type 0
IsClockAccepted files None = ⊤
IsClockAccepted files (Some name) = IsTrue (is_system name) ⊎ HasReadings files name

-- setup, script, clock and tables with these names are there and break no rule, and the plan of them breaks none
pub record AreAccepted (files : Files) (names : Names) : Type 0 where
  pub script : HasScript (Some files) names
  pub clock : IsClockAccepted files names.clock
  pub tables : List Table
  pub given : HasTables (Some files) script.before.setup.tables tables
  pub faultless : plan_fault script.before.setup script.script.commands tables ≡ None

-- the shelf exposes its files, and they are accepted
pub record HasAccepted (a : Around) (names : Names) : Type 0 where
  pub files : Files
  pub exposed : a.before.shelf.files ≡ Some files
  pub accepted : AreAccepted files names
