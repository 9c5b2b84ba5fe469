-- The first fault of a clock file, by what was read of its lines.
use Rattle.std.proofs.Common.{◌≡◌, refl, ℕ, suc, true, false, List, [], ◌∷◌, length, map, arith}
use Rattle.std.specs.Prelude.{◌==◌, if◌then◌else◌, nat_lt, None, Some}
use Rattle.std.proofs.lemmas.Bool.{ne_eqb}
use Rattle.conc_types.specs.declared.kind.RefusalKind.TheVariants as refused
use Rattle.conc_types.specs.declared.refusal.FileKind.{FileKind}
use Rattle.conc_types.specs.declared.error.ReadFail.{ReadFail}
use Rattle.conc_types.specs.declared.error.ReadFail.TheVariants as fail
use Rattle.conc_types.specs.declared.refusal.Refusal.{Refusal}
use Rattle.conc_types.specs.declared.script.Reading.{Reading}
use Rattle.conc_types.specs.Faults.{Fault, first_fault, IsFailure}
use Rattle.conc_types.specs.Words.{is_empty}
use Rattle.conc_script.specs.Clock.{clock_fault, line_kind, lines_of, reading_of}
use Rattle.conc_script.specs.Readings.{ReadsLines}
use Rattle.conc_script.proofs.Faults.{fault_none}

none_read : (lines : List (List ℕ)) (readings : List Reading) → map reading_of lines ≡ map (λ q. Some q) readings → (length readings == 0) ≡ is_empty lines
none_read [] [] e = refl
none_read [] (q ∷ readings) e = absurd cc
none_read (line ∷ lines) [] e = absurd cc
none_read (line ∷ lines) (q ∷ readings) e = ne_eqb (suc (length readings)) 0 (λ n. omega arith)

-- the file is too long
pub long_file : (bytes : List ℕ) → nat_lt 67108864 (length bytes) ≡ true → clock_fault bytes ≡ Some (0, refused.TooManyLines)
unfolding clock_fault
long_file bytes long = rw long refl

-- no line is read of it
pub empty_file : (bytes : List ℕ) (readings : List Reading) (count : ℕ) → count ≡ length readings → nat_lt 67108864 (length bytes) ≡ false → ReadsLines (lines_of bytes) readings → (count == 0) ≡ true
    → clock_fault bytes ≡ Some (1, refused.BadField)
unfolding clock_fault
empty_file bytes readings count many short r none = rw (short, ← none_read (lines_of bytes) readings r.list, ← many, none) refl

-- its lines are read
pub no_fault : (bytes : List ℕ) (readings : List Reading) (count : ℕ) → count ≡ length readings → nat_lt 67108864 (length bytes) ≡ false → ReadsLines (lines_of bytes) readings → (count == 0) ≡ false
    → clock_fault bytes ≡ None
unfolding clock_fault
no_fault bytes readings count many short r some = rw (short, ← none_read (lines_of bytes) readings r.list, ← many, some) r.faultless

fault_of_lines : (lines : List (List ℕ)) (fault : Fault) → first_fault (line_kind lines) 1 (length lines) ≡ Some fault
    → (if is_empty lines then Some (1, refused.BadField) else first_fault (line_kind lines) 1 (length lines)) ≡ Some fault
fault_of_lines [] fault e = let none = fault_none (line_kind []) 1 in absurd cc
fault_of_lines (line ∷ lines) fault e = e

-- a line of it breaks a rule
pub line_fault : (bytes : List ℕ) (file : FileKind) (e : ReadFail Refusal) → nat_lt 67108864 (length bytes) ≡ false → IsFailure file (first_fault (line_kind (lines_of bytes)) 1 (length (lines_of bytes))) e
    → IsFailure file (clock_fault bytes) e
unfolding clock_fault
line_fault bytes file (fail.Refused refusal) short h = (h.0, rw short (fault_of_lines (lines_of bytes) (refusal.line, refusal.kind) h.1))
line_fault bytes file fail.NoMemory short h = tt
