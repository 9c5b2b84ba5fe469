-- The files that were read, each of them there and accepted, and the file to be read next.
use Rattle.std.specs.Prelude.{◌≡◌, ℕ, ◌≤◌, Bool, false, true, List, [], ◌∷◌, codes, length, Ok, Option, None, Some, slice_get, take}
use Rattle.std.specs.List.{AllZip, sum_by, zip}
use Rattle.std.specs.Str.{bytes_eq}
use Rattle.conc_edge_clock.specs.Clocks.{ClockState, Gives as Shows}
use Rattle.conc_types.specs.declared.event.Moment.{Moment}
use Rattle.conc_types.specs.declared.digests.Digests.{Digests}
use Rattle.conc_types.specs.declared.plan.Plan.{Plan}
use Rattle.conc_types.specs.declared.refusal.FileKind.{FileKind}
use Rattle.conc_types.specs.declared.refusal.FileKind.TheVariants as kind
use Rattle.conc_types.specs.declared.script.Reading.{Reading}
use Rattle.conc_types.specs.declared.script.Readings.{Readings}
use Rattle.conc_types.specs.declared.script.Script.{Script}
use Rattle.conc_types.specs.declared.setup.Setup.{Setup}
use Rattle.conc_types.specs.declared.table.Table.{Table}
use Rattle.conc_data_digests.specs.Inputs.{input_digests}
use Rattle.conc_data_digests.specs.Stamps.{stamps_of}
use Rattle.conc_outside.specs.Files.{Files, Gives, ShelfState}
use Rattle.conc_setup.specs.Setups.{setup_in}
use Rattle.conc_script.specs.Clock.{SpellsClock}
use Rattle.conc_script.specs.Script.{SpellsScript}
use Rattle.conc_tables.specs.Tables.{SpellsTable}
use Rattle.conc_top_inputs.specs.declared.names.FileNames.{FileNames}

-- the names of the files that are read; some commands are given no clock
pub record Names : Type 0 where
  pub setup : List ℕ
  pub script : List ℕ
  pub clock : Option (List ℕ)

abbrev pub named : List ℕ → List ℕ → Option (List ℕ) → Names
named setup script clock = record { setup = setup; script = script; clock = clock }

-- those of a run or a check
abbrev pub names_of : FileNames → Names
names_of files = named files.setup files.script (Some files.clock)

-- what a call reads from
pub record Sources : Type 0 where
  pub shelf : ShelfState
  pub clock : ClockState

abbrev pub sources : ShelfState → ClockState → Sources
sources shelf clock = record { shelf = shelf; clock = clock }

-- what they expose: the files, and the clock before and after the reading
pub record Exposed : Type 0 where
  pub files : Option Files
  pub clock_before : ClockState
  pub clock_after : ClockState

abbrev pub exposed_by : Sources → Sources → Exposed
exposed_by old new = record { files = old.shelf.files; clock_before = old.clock; clock_after = new.clock }

-- the setup's bytes were read under its name, and spell this setup
pub record HasSetup (exposed : Option Files) (names : Names) : Type 0 where
  pub bytes : List ℕ
  pub given : Gives exposed names.setup bytes
  pub setup : Setup
  pub spells : setup_in bytes ≡ Ok setup

-- then the script's
pub record HasScript (exposed : Option Files) (names : Names) : Type 0 where
  pub before : HasSetup exposed names
  pub bytes : List ℕ
  pub given : Gives exposed names.script bytes
  pub script : Script
  pub spells : SpellsScript before.setup bytes script

-- the name of a clock that asks the clock of the system, and is no file's
abbrev pub is_system : List ℕ → Bool
is_system name = bytes_eq name (codes "system")

-- the one reading of this moment, which is not early
abbrev pub reading_at : Moment → Reading
reading_at moment = record { moment = moment; early = false }

-- the clock gave one moment, which these readings are
abbrev pub IsShown : ClockState → ClockState → Readings → Type 0
IsShown old new readings = (moment : Moment) × Shows old.moments moment new.moments × (readings.list ≡ reading_at moment ∷ [])

-- readings of the system's clock; or of the file with this name, whose bytes spell them, and that clock was not asked
abbrev pub ReadsFrom : Exposed → List ℕ → Readings → Bool → Type 0
ReadsFrom exposed name readings true = IsShown exposed.clock_before exposed.clock_after readings
ReadsFrom exposed name readings false = (bytes : List ℕ) × Gives exposed.files name bytes × SpellsClock bytes readings × (exposed.clock_after ≡ exposed.clock_before)

-- the clock that is named gave these readings; or none is named, and there are none
abbrev pub ReadsClock : Exposed → Option (List ℕ) → Option Readings → Type 0
ReadsClock exposed (Some name) (Some readings) = ReadsFrom exposed name readings (is_system name)
ReadsClock exposed None None = exposed.clock_after ≡ exposed.clock_before
ReadsClock exposed _ _ = ⊥

-- then the clock's
pub record HasClock (exposed : Exposed) (names : Names) : Type 0 where
  pub before : HasScript exposed.files names
  pub readings : Option Readings
  pub given : ReadsClock exposed names.clock readings

-- then those of the tables with these names, in their order. Together they have at most 134,217,728 bytes
pub record HasTables (exposed : Option Files) (names : List (List ℕ)) (tables : List Table) : Type 0 where
  pub contents : List (List ℕ)
  pub given : AllZip (Gives exposed) names contents
  pub spell : AllZip SpellsTable contents tables
  pub fit : sum_by length contents ≤ 134217728

-- the table with this number, from 0, is to be read next
pub record IsNextTable (exposed : Exposed) (names : Names) (number : ℕ) (name : List ℕ) : Type 0 where
  pub before : HasClock exposed names
  pub tables : List Table
  pub given : HasTables exposed.files (take number before.before.before.setup.tables) tables
  pub named : slice_get before.before.before.setup.tables number ≡ Some name

-- all files before this one were there and accepted, and it is to be read next, under this name; a file of repeats never is
abbrev pub IsNext : Exposed → Names → FileKind → List ℕ → Type 0
IsNext exposed names kind.Setup name = name ≡ names.setup
IsNext exposed names kind.Script name = HasSetup exposed.files names × (name ≡ names.script)
IsNext exposed names kind.Clock name = HasScript exposed.files names × (names.clock ≡ Some name) × (is_system name ≡ false)
IsNext exposed names (kind.Table number) name = IsNextTable exposed names number name
IsNext exposed names kind.Repeats name = ⊥
IsNext exposed names kind.Parts name = ⊥

-- all files were there and accepted, with these tables
pub record HasAll (exposed : Exposed) (names : Names) (tables : List Table) : Type 0 where
  pub before : HasClock exposed names
  pub given : HasTables exposed.files before.before.before.setup.tables tables

-- the digests of the bytes of the setup and the script, and of the tables under their names
abbrev pub digests_of : {exposed : Exposed} {names : Names} {tables : List Table} → HasAll exposed names tables → Digests
digests_of all =
    input_digests all.before.before.before.bytes all.before.before.bytes (zip all.before.before.before.setup.tables all.given.contents)

-- they give this plan, with the stamps of its script's commands, and, where there is a clock, these readings
pub record Accepts (exposed : Exposed) (names : Names) (plan : Plan) (readings : Option Readings) : Type 0 where
  pub files : HasAll exposed names plan.tables
  pub setup : plan.setup ≡ files.before.before.before.setup
  pub script : plan.script ≡ files.before.before.script
  pub stamps : plan.stamps ≡ stamps_of files.before.before.script.commands
  pub same_readings : readings ≡ files.before.readings
