-- What a digest has taken in.
use Rattle.std.specs.Prelude.{◌≡◌, ℕ, List, [], ◌∷◌, ◌++◌}
use Rattle.sha2.specs.Hashers.{Holds256}
use Rattle.conc_data_digests.specs.Files.{tables_of}
use Rattle.conc_data_digests.specs.Inputs.{base_message, message}
use Rattle.conc_data_digests.specs.declared.files.InputFiles.{InputFiles}
use Rattle.conc_data_digests.specs.declared.input.Hashers.{Hashers}
use Rattle.conc_data_digests.specs.declared.input.InputDigest.{InputDigest}
use Rattle.conc_data_digests.specs.declared.input.Taken.{Taken}
use Rattle.conc_data_digests.specs.declared.input.Taken.TheVariants.{Digested, Kept}

-- these are the files
pub record AreFiles (files : InputFiles) (setup script : List ℕ) (tables : List (List ℕ × List ℕ)) : Type 0 where
  pub setup_is : files.setup.items ≡ setup
  pub script_is : files.script.items ≡ script
  pub tables_are : tables_of files ≡ tables

-- the hashers hold the messages of these files
pub record HoldMessages (hashers : Hashers) (setup script : List ℕ) (tables : List (List ℕ × List ℕ)) : Type 0 where
  pub full : Holds256 hashers.full (message setup script tables)
  pub base : Holds256 hashers.base (base_message setup tables)

abbrev pub HasTakenIn : Taken → List ℕ → List ℕ → List (List ℕ × List ℕ) → Type 0
HasTakenIn (Kept files) setup script tables = AreFiles files setup script tables
HasTakenIn (Digested hashers) setup script tables = HoldMessages hashers setup script tables

-- it has taken in this setup, this script and these tables, each a name and bytes
abbrev pub HasTaken : InputDigest → List ℕ → List ℕ → List (List ℕ × List ℕ) → Type 0
HasTaken digest setup script tables = HasTakenIn digest.taken setup script tables

-- whatever the first has taken in, the second has taken in, and this table behind it
abbrev pub TakesTable : List ℕ → List ℕ → InputDigest → InputDigest → Type 0
TakesTable name bytes old new =
    (setup script : List ℕ) (tables : List (List ℕ × List ℕ)) → HasTaken old setup script tables
    → HasTaken new setup script (tables ++ (name, bytes) ∷ [])
