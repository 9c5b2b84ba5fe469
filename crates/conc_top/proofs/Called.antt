-- What a call of one command means, from what the command answers.
use Rattle.std.proofs.Common.{◌≡◌, ◌∙◌, Option, Some, ap, subst, sym}
use Rattle.conc_top.specs.declared.exit.Exit.{Exit}
use Rattle.conc_top_words.specs.declared.command.Command.{Command}

-- the command that was read is the one that was found
pub asked-is : (asked : Option Command) (found is : Command) → asked ≡ Some found → found ≡ is → asked ≡ Some is
asked-is asked found is some same = some ∙ ap (λ c. Some c) same

-- what holds of a shelf, a sink, an exit and a command holds of those that are the same
pub of-same : {F O : Type 0} (P : F → O → Exit → Option Command → Type 0) (shelf shelf' : F) (out out' : O) (end end' : Exit) (asked asked' : Option Command)
    → shelf' ≡ shelf → out' ≡ out → end' ≡ end → asked' ≡ asked → P shelf out end asked → P shelf' out' end' asked'
of-same P shelf shelf' out out' end end' asked asked' same_shelf same_out same_end same_asked holds =
    subst (λ s. P s out' end' asked') (sym same_shelf)
    (subst (λ o. P shelf o end' asked') (sym same_out) (subst (λ e. P shelf out e asked') (sym same_end) (subst (λ q. P shelf out end q) (sym same_asked) holds)))

-- what holds of two disks holds of those that are the same
pub of-same-disks : {D E : Type 0} (P : D → E → Type 0) (journal journal' : D) (spool spool' : E) → journal' ≡ journal → spool' ≡ spool → P journal spool → P journal' spool'
of-same-disks P journal journal' spool spool' same_journal same_spool holds =
    subst (λ j. P j spool') (sym same_journal) (subst (λ s. P journal s) (sym same_spool) holds)
