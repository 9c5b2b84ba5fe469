-- Why a setup, a script and its tables give no plan.
use Rattle.std.specs.Prelude.{◌≡◌, ℕ, ◌-◌, not, nat_lt, List, [], ◌∷◌, length, take, Option, Some, is_none}
use Rattle.std.specs.Option.{option_and_then, option_map, option_or}
use Rattle.conc_types.specs.declared.kind.RefusalKind.{RefusalKind}
use Rattle.conc_types.specs.declared.kind.RefusalKind.TheVariants as refused
use Rattle.conc_types.specs.declared.program.Program.{Program}
use Rattle.conc_types.specs.declared.refusal.FileKind.{FileKind}
use Rattle.conc_types.specs.declared.refusal.FileKind.TheVariants as file
use Rattle.conc_types.specs.declared.error.ReadFail.{ReadFail}
use Rattle.conc_types.specs.declared.error.ReadFail.TheVariants as fail
use Rattle.conc_types.specs.declared.refusal.Refusal.{Refusal}
use Rattle.conc_types.specs.declared.script.Order.{Order}
use Rattle.conc_types.specs.declared.setup.Setup.{Setup}
use Rattle.conc_types.specs.declared.table.Table.{Table}
use Rattle.conc_types.specs.Expansion.{expansion}
use Rattle.conc_types.specs.Faults.{Fault, first_broken, first_fault}
use Rattle.conc_types.specs.Tables.{can_report, table_named}
use Rattle.conc_types.specs.Words.{numbered}

-- the first rule that a program breaks: its table is one of the setup's, and has the columns that its filters, group and sum name
unfoldable pub kind_for : Setup → List Table → Program → Option RefusalKind
kind_for setup tables program =
    first_broken ((is_none (table_named setup tables program.job.table), refused.UnknownTable) ∷ (not (can_report setup tables program), refused.UnknownColumn) ∷ [])

unfoldable pub program_kind : Setup → List Table → ℕ → Option RefusalKind
program_kind setup tables n = option_and_then (kind_for setup tables) (numbered setup.programs n)

-- the record is one with which there are more than 16,384 requests. The first record is the header, so the first command stands in the second
unfoldable pub record_kind : Setup → List Order → ℕ → Option RefusalKind
record_kind setup orders n = first_broken ((nat_lt 16384 (length (expansion setup (take (n - 1) orders))), refused.TooManyRequests) ∷ [])

-- the first fault: that of a program in the setup, else that of a record in the script
unfoldable pub plan_fault : Setup → List Order → List Table → Option (FileKind × Fault)
plan_fault setup orders tables =
    option_or
    (option_map (λ fault. (file.Setup, fault)) (first_fault (program_kind setup tables) 1 (length setup.programs)))
    (option_map (λ fault. (file.Script, fault)) (first_fault (record_kind setup orders) 2 (length orders)))

-- no plan is given for its first fault, or there was no memory
abbrev pub IsFailure : Option (FileKind × Fault) → ReadFail Refusal → Type 0
IsFailure fault (fail.Refused refusal) = fault ≡ Some (refusal.file, (refusal.line, refusal.kind))
IsFailure fault fail.NoMemory = Unit {0}
