-- The first fault of a file, by what was read of its records.
use Rattle.std.proofs.Common.{◌≡◌, refl, ◌∙◌, ap, sym, ℕ, true, false, List, [], ◌∷◌, length}
use Rattle.std.specs.Prelude.{nat_lt, Some}
use Rattle.conc_types.specs.declared.kind.RefusalKind.TheVariants as refused
use Rattle.conc_data_records.specs.Records.{Record, records_of}
use Rattle.conc_repeat.specs.Kept.{begins_with_header, fault_behind}
use Rattle.conc_repeat.specs.Refusing.{records_fault, repeats_fault, same_fields}
use Rattle.conc_repeat.specs.Series.{header}
use Rattle.conc_repeat.proofs.HeaderRecord.{same_record}

-- the file is too long
pub long_file : (bytes : List ℕ) → nat_lt 67108864 (length bytes) ≡ true → repeats_fault bytes ≡ Some (0, refused.TooManyCommands)
unfolding repeats_fault
long_file bytes long = rw long refl

no_header : (records : List Record) → begins_with_header records ≡ false → records_fault records ≡ Some (1, refused.NotRepeats)
no_header [] e = refl
no_header (first ∷ rest) e = rw e refl

-- its first record is not the header, or not there
pub headless_file : (bytes : List ℕ) → nat_lt 67108864 (length bytes) ≡ false → begins_with_header (records_of bytes) ≡ false → repeats_fault bytes ≡ Some (1, refused.NotRepeats)
unfolding repeats_fault
headless_file bytes short e = rw short (no_header (records_of bytes) e)

-- its first fault is that of the records behind the header
pub fault_of_file : (bytes : List ℕ) (records : List Record) → nat_lt 67108864 (length bytes) ≡ false → records_of bytes ≡ header ∷ records
    → repeats_fault bytes ≡ fault_behind records
unfolding repeats_fault
fault_of_file bytes records short e = rw (short, e) refl

-- the first record is the header
pub header_read : (records rest : List Record) (first : Record) → records ≡ first ∷ rest → true ≡ same_fields first header → records ≡ header ∷ rest
header_read records rest first e same = e ∙ ap (λ (r : Record). r ∷ rest) (same_record first header (sym same))
