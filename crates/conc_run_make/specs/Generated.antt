-- The plan and the readings of generated files.
use Rattle.std.specs.Prelude.{◌≡◌, ℕ, [], ◌∷◌, Ok}
use Rattle.conc_types.specs.declared.plan.Plan.{Plan}
use Rattle.conc_types.specs.declared.script.Readings.{Readings}
use Rattle.conc_types.specs.declared.table.Table.{Table}
use Rattle.conc_script.specs.Clock.{SpellsClock}
use Rattle.conc_script.specs.Script.{SpellsScript}
use Rattle.conc_setup.specs.Setups.{setup_in}
use Rattle.conc_tables.specs.Tables.{SpellsTable}
use Rattle.conc_make.specs.Files.{clock_text, script_text, setup_text, table_text}

-- the files that are made of a seed and a size spell this plan and these readings
pub record AreGenerated (seed size : ℕ) (plan : Plan) (readings : Readings) : Type 0 where
  pub setup : setup_in setup_text ≡ Ok plan.setup
  pub script : SpellsScript plan.setup (script_text seed size) plan.script
  pub clock : SpellsClock clock_text readings
  pub table : Table
  pub table_is : SpellsTable (table_text seed) table
  pub tables : plan.tables ≡ table ∷ []
