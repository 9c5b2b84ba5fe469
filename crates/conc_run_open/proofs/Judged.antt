-- Whether a journal is that of an input.
use Rattle.std.proofs.Common.{◌≡◌, ℕ, List, Option, None, Some, take, replicate, sym, ◌∙◌, ap, subst}
use Rattle.std.specs.Option.{MatchOption}
use Rattle.std.proofs.lemmas.List.{append_cancel_right}
use Rattle.conc_types.specs.declared.digests.Digests.{Digests}
use Rattle.conc_types.specs.declared.event.Event.{Event}
use Rattle.conc_types.specs.declared.plan.Plan.{Plan}
use Rattle.conc_journal_image.specs.declared.label.Label.{Label}
use Rattle.conc_journal_image.specs.declared.label.Version.{Version}
use Rattle.conc_journal_image.specs.declared.label.Version.TheVariants.{Two}
use Rattle.conc_run_state.specs.Causes.{told, told_for, told_in}
use Rattle.conc_run_state.specs.Inputs.{AreStampsOf, IsOfInput, NamesInput}
use Rattle.conc_run_open.specs.Scripts.{IsNotOfInput, IsOtherCommand}
use Rattle.conc_run_state.specs.declared.error.HistoryFail.{HistoryFail}
use Rattle.conc_run_state.specs.declared.error.HistoryFail.TheVariants as history_fail

-- what is told in version 2 tells the base digest
based : (digests : Digests) (label : Label) → label.version ≡ Two → told label ≡ told_for label.version digests → label.base ≡ take 15 digests.base
based digests label two same =
    append_cancel_right label.base (take 15 digests.base) (replicate 17 0)
    (sym (ap (λ (v : Version). told_in v label.digest label.base) two) ∙ same ∙ ap (λ (v : Version). told_in v digests.full (take 15 digests.base)) two)

-- in version 2 the commands are judged
pub judged : (plan : Plan) (digests : Digests) (label : Label) (events : List Event) (stamps : List ℕ) (r : Option HistoryFail) → label.version ≡ Two → told label ≡ told_for label.version digests
    → MatchOption r (AreStampsOf plan events stamps) (IsOtherCommand plan events stamps) → MatchOption r (IsOfInput plan digests label events stamps) (IsNotOfInput plan digests label events stamps)
judged plan digests label events stamps None two same is =
    subst (λ (v : Version). NamesInput v plan digests label events stamps) (sym two) (based digests label two same, is)
judged plan digests label events stamps (Some (history_fail.OtherScript command found given)) two same is = (two, based digests label two same, is)
judged plan digests label events stamps (Some _) two same is = absurd is
