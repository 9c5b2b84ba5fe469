-- The first pass: entries that are wrong by themselves.
use Rattle.std.specs.Prelude.{◌+◌, ◌≤◌, length, Option, Result}
use Rattle.std.specs.Option.{option_or}
use Rattle.conc_types.specs.Faults.{Fault}
use Rattle.conc_data_fields.specs.Arrays.{first_wrong, goods}
use Rattle.conc_setup.specs.Lines.{unless_fault}
use Rattle.conc_setup.specs.Places.{places_in_all}
use Rattle.conc_setup.specs.declared.raw.Document.{Document}
use Rattle.conc_setup.specs.declared.raw.RawSetup.{RawSetup}

-- the first entry that is wrong, counted through the arrays
unfoldable pub wrong_entry : Document → Option Fault
wrong_entry document =
    option_or (first_wrong 1 document.programs.list) (
    option_or (first_wrong (1 + length document.programs.list) document.entries.list) (
    option_or (first_wrong (1 + length document.programs.list + length document.entries.list) document.managers.list)
    (first_wrong (1 + length document.programs.list + length document.entries.list + length document.managers.list) document.sets.list)))

abbrev pub accepted : Document → RawSetup
accepted document = record {
  tables = document.tables;
  programs = goods document.programs.list;
  entries = goods document.entries.list;
  managers = goods document.managers.list;
  sets = goods document.sets.list;
}

unfoldable pub first_pass : Document → Result RawSetup Fault
first_pass document = unless_fault (wrong_entry document) (accepted document)

-- a setup within its limits
pub record IsFew (raw : RawSetup) : Type 0 where
  pub programs : length raw.programs ≤ 1024
  pub entries : length raw.entries ≤ 4096
  pub managers : length raw.managers ≤ 64
  pub sets : length raw.sets ≤ 256
  pub places : places_in_all raw.managers ≤ 64
