-- What the judge of a history's text says.
use Rattle.std.specs.Prelude.{◌≡◌, ℕ, ◌++◌, Bool, false, true, List, codes}
use Rattle.std.specs.Fmt.{decimal}
use Rattle.conc_types.specs.declared.plan.Plan.{Plan}
use Rattle.conc_types.specs.declared.script.Reading.{Reading}
use Rattle.conc_top_inputs.specs.Fails.{IsUnread}
use Rattle.conc_top_inputs.specs.declared.error.InputFail.TheVariants as input
use Rattle.conc_outside.specs.Files.{Gives, ShelfState}
use Rattle.conc_history_check.specs.Verdicts.{IsVerdict}
use Rattle.conc_history_check.specs.declared.verdict.Verdict.{Verdict}
use Rattle.conc_history_check.specs.declared.verdict.Verdict.TheVariants as verdict
use Rattle.conc_top.specs.declared.exit.Exit.{Exit}
use Rattle.conc_top.specs.declared.exit.Exit.TheVariants as exit
use Rattle.conc_top.specs.Printing.{Prints, Sunk, TookNothing}

-- a plan, the readings of its last life, the name of a history's file, and the shelf before and after
pub record Judging : Type 0 where
  pub plan : Plan
  pub readings : List Reading
  pub name : List ℕ
  pub before : ShelfState
  pub after : ShelfState

-- the file was read, and this is found of its text
pub record IsJudged (j : Judging) (found : Verdict) : Type 0 where
  pub bytes : List ℕ
  pub given : Gives j.before.files j.name bytes
  pub found_is : IsVerdict j.plan j.readings bytes found

abbrev pub finished_word : Bool → List ℕ
finished_word true = codes " finished\n"
finished_word false = codes " unfinished\n"

-- the line that tells of a lawful history how many events it has, and whether it is finished
abbrev pub verdict_text : ℕ → Bool → List ℕ
verdict_text events finished = codes "lawful " ++ decimal events ++ finished_word finished

-- the text tells that the history is lawful
pub record IsVerdictText (j : Judging) (text : List ℕ) : Type 0 where
  pub events : ℕ
  pub finished : Bool
  pub judged : IsJudged j (verdict.Lawful events finished)
  pub text_is : text ≡ verdict_text events finished

-- what each exit says of the history and of the output
abbrev pub CheckEnds : Judging → Sunk → Exit → Type 0
CheckEnds j sink (exit.NotLawful line) = IsJudged j (verdict.NotLawful line) × TookNothing sink
CheckEnds j sink (exit.Absent name) = IsUnread j.before j.after j.name (input.Absent name) × TookNothing sink
CheckEnds j sink (exit.ReadFault name) = IsUnread j.before j.after j.name (input.ReadFault name) × TookNothing sink
CheckEnds j sink end = Prints (IsVerdictText j) sink end
