-- What was read, and its digest.
use Rattle.std.specs.Prelude.{◌≡◌, ℕ, ◌+◌, ◌≤◌, ◌++◌, List, [], ◌∷◌, length, Option}
use Rattle.std.specs.List.{zip}
use Rattle.conc_types.specs.declared.script.Readings.{Readings}
use Rattle.conc_types.specs.declared.table.Table.{Table}
use Rattle.conc_data_digests.specs.Taken.{HasTaken}
use Rattle.conc_data_digests.specs.declared.input.InputDigest.{InputDigest}
use Rattle.conc_outside.specs.Files.{Files, Gives}
use Rattle.conc_tables.specs.Tables.{SpellsTable}
use Rattle.conc_top_inputs.specs.declared.given.Progress.{Progress}
use Rattle.conc_top_inputs.specs.declared.reading.Start.{Start}
use Rattle.conc_top_inputs.specs.Given.{HasClock, HasScript, HasTables, Names, Exposed}

-- the setup and the script were read and accepted, and say this
pub record HasStart (exposed : Option Files) (names : Names) (start : Start) : Type 0 where
  pub files : HasScript exposed names
  pub setup : start.setup ≡ files.before.setup
  pub script : start.script ≡ files.script
  pub digest : HasTaken start.digest files.before.bytes files.bytes []

-- the same, and the clock, if one is named, was read and accepted, and gave these readings
pub record HasInputs (exposed : Exposed) (names : Names) (start : Start) (readings : Option Readings) : Type 0 where
  pub files : HasClock exposed names
  pub setup : start.setup ≡ files.before.before.setup
  pub script : start.script ≡ files.before.script
  pub same_readings : readings ≡ files.readings
  pub digest : HasTaken start.digest files.before.before.bytes files.before.bytes []

-- the table under this name was read and accepted, and is counted and digested behind those before it
pub record TakesTable (exposed : Option Files) (name : List ℕ) (old new : Progress) (table : Table) : Type 0 where
  pub bytes : List ℕ
  pub given : Gives exposed name bytes
  pub spells : SpellsTable bytes table
  pub counted : new.bytes ≡ old.bytes + length bytes
  pub fit : new.bytes ≤ 134217728
  pub digest : (setup script : List ℕ) (before : List (List ℕ × List ℕ)) → HasTaken old.digest setup script before
      → HasTaken new.digest setup script (before ++ (name, bytes) ∷ [])

-- the tables with these names were read and accepted, and the digest took them in
pub record HasTablesIn (exposed : Option Files) (names : List (List ℕ)) (old new : InputDigest) (tables : List Table) : Type 0 where
  pub given : HasTables exposed names tables
  pub digest : (setup script : List ℕ) (before : List (List ℕ × List ℕ)) → HasTaken old setup script before
      → HasTaken new setup script (before ++ zip names given.contents)
