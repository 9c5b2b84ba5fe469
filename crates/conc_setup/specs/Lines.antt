-- What is wrong, by lines.
use Rattle.std.specs.Prelude.{ℕ, Option, None, Some, Result, Ok, Err}
use Rattle.conc_types.specs.declared.kind.RefusalKind.{RefusalKind}
use Rattle.conc_types.specs.Faults.{Fault}

-- what is wrong on a line
abbrev pub on_line : {A : Type 0} → ℕ → Result A RefusalKind → Result A Fault
on_line line (Ok a) = Ok a
on_line line (Err kind) = Err (line, kind)

-- what is right, unless there is a fault
abbrev pub unless_fault : {A : Type 0} → Option Fault → A → Result A Fault
unless_fault None a = Ok a
unless_fault (Some fault) a = Err fault

-- what the next pass makes of it, where nothing is wrong yet
abbrev pub passed : {A B : Type 0} → (A → Result B Fault) → Result A Fault → Result B Fault
passed pass (Ok a) = pass a
passed pass (Err fault) = Err fault
