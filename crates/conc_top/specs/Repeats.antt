-- What `repeat` makes of a file of repeats.
use Rattle.std.specs.Prelude.{◌≡◌, ℕ, List}
use Rattle.conc_outside.specs.Files.{Gives, ShelfState}
use Rattle.conc_repeat.specs.Refusing.{repeats_fault}
use Rattle.conc_repeat.specs.Script.{Expands}
use Rattle.conc_top_inputs.specs.Fails.{IsUnread}
use Rattle.conc_top_inputs.specs.declared.error.InputFail.TheVariants as input
use Rattle.conc_types.specs.Faults.{IsFailure}
use Rattle.conc_types.specs.declared.error.ReadFail.TheVariants as fail
use Rattle.conc_types.specs.declared.refusal.FileKind.TheVariants as kind
use Rattle.conc_types.specs.declared.refusal.Refusal.{Refusal}
use Rattle.conc_top.specs.declared.exit.Exit.{Exit}
use Rattle.conc_top.specs.declared.exit.Exit.TheVariants as exit
use Rattle.conc_top.specs.Printing.{Prints, Sunk, TookNothing}

-- the name of a file of repeats, and the shelf before and after
pub record Repeating : Type 0 where
  pub name : List ℕ
  pub before : ShelfState
  pub after : ShelfState

-- the text is the script to which the file expands
pub record IsScriptText (r : Repeating) (text : List ℕ) : Type 0 where
  pub bytes : List ℕ
  pub given : Gives r.before.files r.name bytes
  pub expands : Expands bytes text

-- the file, which has this name, is refused for its first fault
pub record IsRepeatsRefused (r : Repeating) (refusal : Refusal) (name : List ℕ) : Type 0 where
  pub bytes : List ℕ
  pub given : Gives r.before.files r.name bytes
  pub fault : IsFailure kind.Repeats (repeats_fault bytes) (fail.Refused refusal)
  pub named : name ≡ r.name

-- what each exit says of the file and of the output
abbrev pub RepeatEnds : Repeating → Sunk → Exit → Type 0
RepeatEnds r sink (exit.Refused refusal name) = IsRepeatsRefused r refusal name × TookNothing sink
RepeatEnds r sink (exit.Absent name) = IsUnread r.before r.after r.name (input.Absent name) × TookNothing sink
RepeatEnds r sink (exit.ReadFault name) = IsUnread r.before r.after r.name (input.ReadFault name) × TookNothing sink
RepeatEnds r sink end = Prints (IsScriptText r) sink end
