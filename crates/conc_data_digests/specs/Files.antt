-- The files of a run's input, and their digests.
use Rattle.std.specs.Prelude.{ℕ, List, map}
use Rattle.conc_types.specs.declared.digests.Digests.{Digests}
use Rattle.conc_data_digests.specs.Inputs.{input_digests}
use Rattle.conc_data_digests.specs.declared.files.InputFiles.{InputFiles}
use Rattle.conc_data_digests.specs.declared.files.TableFile.{TableFile}

-- a table's name and its bytes
abbrev pub named_bytes : TableFile → List ℕ × List ℕ
named_bytes table = (table.name.items, table.bytes.items)

-- so of each table of these files
abbrev pub tables_of : InputFiles → List (List ℕ × List ℕ)
tables_of files = map named_bytes files.tables.items

abbrev pub digests_of_files : InputFiles → Digests
digests_of_files files = input_digests files.setup.items files.script.items (tables_of files)
