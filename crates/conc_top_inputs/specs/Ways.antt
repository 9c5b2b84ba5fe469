-- What a file makes of a command.
use Rattle.std.specs.Prelude.{ℕ, List}
use Rattle.conc_types.specs.declared.error.ReadFail.{ReadFail}
use Rattle.conc_types.specs.declared.error.ReadFail.TheVariants as fail
use Rattle.conc_types.specs.declared.refusal.Refusal.{Refusal}
use Rattle.conc_outside.specs.declared.error.ShelfFail.{ShelfFail}
use Rattle.conc_outside.specs.declared.error.ShelfFail.TheVariants as shelf_fail
use Rattle.conc_top_inputs.specs.declared.error.InputFail.{InputFail}
use Rattle.conc_top_inputs.specs.declared.error.InputFail.TheVariants as input
use Rattle.conc_top_inputs.specs.declared.error.FileFail.{FileFail}
use Rattle.conc_top_inputs.specs.declared.error.FileFail.TheVariants as file_fail
use Rattle.conc_top_inputs.specs.Refusals.{name_of}

abbrev pub fail_at : FileFail → List ℕ → InputFail
fail_at (file_fail.Refused refusal) name = input.Refused refusal name
fail_at file_fail.Absent name = input.Absent name
fail_at file_fail.ReadFault name = input.ReadFault name
fail_at file_fail.NoMemory name = input.NoMemory

-- why a file ends the reading that the shelf does not give
abbrev pub file_fail_for_shelf : ShelfFail → FileFail
file_fail_for_shelf shelf_fail.Absent = file_fail.Absent
file_fail_for_shelf shelf_fail.Failed = file_fail.ReadFault
file_fail_for_shelf shelf_fail.NoMemory = file_fail.NoMemory

-- why one does that its reader refuses
abbrev pub file_fail_for : ReadFail Refusal → FileFail
file_fail_for (fail.Refused refusal) = file_fail.Refused refusal
file_fail_for fail.NoMemory = file_fail.NoMemory

-- the failure where the files give no plan
abbrev pub fail_without_plan : List ℕ → List ℕ → ReadFail Refusal → InputFail
fail_without_plan setup script (fail.Refused refusal) = input.Refused refusal (name_of setup script refusal.file)
fail_without_plan setup script fail.NoMemory = input.NoMemory
