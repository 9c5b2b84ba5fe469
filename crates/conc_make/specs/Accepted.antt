-- What the readers and the plan say of four files.
use Rattle.std.specs.Prelude.{◌≡◌, ℕ, List, [], ◌∷◌, None, Ok}
use Rattle.conc_types.specs.declared.script.Readings.{Readings}
use Rattle.conc_types.specs.declared.script.Script.{Script}
use Rattle.conc_types.specs.declared.setup.Setup.{Setup}
use Rattle.conc_types.specs.declared.table.Table.{Table}
use Rattle.conc_plan.specs.Faults.{plan_fault}
use Rattle.conc_script.specs.Clock.{SpellsClock}
use Rattle.conc_script.specs.Script.{SpellsScript}
use Rattle.conc_setup.specs.Setups.{setup_in}
use Rattle.conc_tables.specs.Tables.{SpellsTable}

-- each file spells what it is to be, the script with the setup, and nothing stands against a plan of them
pub record AreAccepted (setup script clock table : List ℕ) : Type 0 where
  pub setup_read : Setup
  pub script_read : Script
  pub clock_read : Readings
  pub table_read : Table
  pub setup_is : setup_in setup ≡ Ok setup_read
  pub script_is : SpellsScript setup_read script script_read
  pub clock_is : SpellsClock clock clock_read
  pub table_is : SpellsTable table table_read
  pub planned : plan_fault setup_read script_read.commands (table_read ∷ []) ≡ None
