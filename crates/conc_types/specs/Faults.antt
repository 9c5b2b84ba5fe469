-- The first fault of a file.
use Rattle.std.specs.Prelude.{◌≡◌, ℕ, zero, suc, ◌+◌, Bool, if◌then◌else◌, List, [], ◌∷◌, Option, None, Some}
use Rattle.conc_types.specs.declared.kind.RefusalKind.{RefusalKind}
use Rattle.conc_types.specs.declared.refusal.FileKind.{FileKind}
use Rattle.conc_types.specs.declared.error.ReadFail.{ReadFail}
use Rattle.conc_types.specs.declared.error.ReadFail.TheVariants as fail
use Rattle.conc_types.specs.declared.refusal.Refusal.{Refusal}

-- a line, where 0 is the file as a whole, and the kind of the rule that it breaks
abbrev pub Fault : Type 0
Fault = ℕ × RefusalKind

-- the kind of the first rule that is broken, of rules that are given with whether they are
abbrev pub first_broken : List (Bool × RefusalKind) → Option RefusalKind
first_broken [] = None
first_broken (rule ∷ rules) = if rule.0 then Some rule.1 else first_broken rules

-- a line with its kind, if it has one, else what comes later
abbrev pub fault_or : ℕ → Option RefusalKind → Option Fault → Option Fault
fault_or line None later = later
fault_or line (Some kind) later = Some (line, kind)

-- the first of so many lines, from one on, that breaks a rule
unfoldable pub first_fault : (ℕ → Option RefusalKind) → ℕ → ℕ → Option Fault
first_fault kind_at line zero = None
first_fault kind_at line (suc count) = fault_or line (kind_at line) (first_fault kind_at (line + 1) count)

-- a file with this first fault is refused for it, unless there was no memory
abbrev pub IsFailure : FileKind → Option Fault → ReadFail Refusal → Type 0
IsFailure file fault (fail.Refused refusal) = (refusal.file ≡ file) × (fault ≡ Some (refusal.line, refusal.kind))
IsFailure file fault fail.NoMemory = Unit {0}
