-- The first fault of a script, by what was read of its records.
use Rattle.std.proofs.Common.{◌≡◌, refl, ◌∙◌, ap, sym, ℕ, true, false, List, [], ◌∷◌, length, map, drop}
use Rattle.std.specs.Prelude.{nat_lt, Some}
use Rattle.conc_types.specs.declared.kind.RefusalKind.TheVariants as refused
use Rattle.conc_types.specs.declared.script.Order.{Order}
use Rattle.conc_types.specs.declared.setup.Setup.{Setup}
use Rattle.conc_data_records.specs.Records.{Record, records_of}
use Rattle.conc_script.specs.Orders.{begins_with_header, fault_behind}
use Rattle.conc_script.specs.Script.{header, order_of, records_fault, same_fields, script_fault}
use Rattle.conc_script.proofs.HeaderRecord.{same_record}

-- the file is too long
pub long_script : (setup : Setup) (bytes : List ℕ) → nat_lt 67108864 (length bytes) ≡ true → script_fault setup bytes ≡ Some (0, refused.TooManyLines)
unfolding script_fault
long_script setup bytes long = rw long refl

no_header : (setup : Setup) (records : List Record) → begins_with_header records ≡ false → records_fault setup records ≡ Some (1, refused.NotCsv)
no_header setup [] e = refl
no_header setup (first ∷ rest) e = rw e refl

-- its first record is not the header, or not there
pub headless_script : (setup : Setup) (bytes : List ℕ) → nat_lt 67108864 (length bytes) ≡ false → begins_with_header (records_of bytes) ≡ false → script_fault setup bytes ≡ Some (1, refused.NotCsv)
unfolding script_fault
headless_script setup bytes short e = rw short (no_header setup (records_of bytes) e)

-- its first fault is that of the records behind the header
pub fault_of_script : (setup : Setup) (bytes : List ℕ) (records : List Record) → nat_lt 67108864 (length bytes) ≡ false → records_of bytes ≡ header ∷ records
    → script_fault setup bytes ≡ fault_behind setup records
unfolding script_fault
fault_of_script setup bytes records short e = rw (short, e) refl

pub commands_of_script : (setup : Setup) (bytes : List ℕ) (records : List Record) (commands : List Order) → records_of bytes ≡ header ∷ records
    → map (order_of setup) records ≡ map (λ order. Some order) commands → map (order_of setup) (drop 1 (records_of bytes)) ≡ map (λ order. Some order) commands
commands_of_script setup bytes records commands e list = rw e list

-- the first record is the header
pub header_read : (records rest : List Record) (first : Record) → records ≡ first ∷ rest → true ≡ same_fields first header → records ≡ header ∷ rest
header_read records rest first e same = e ∙ ap (λ (r : Record). r ∷ rest) (same_record first header (sym same))
