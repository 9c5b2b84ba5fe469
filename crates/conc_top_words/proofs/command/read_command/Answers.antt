use Rattle.std.proofs.Common.{subst, sym}
use Rattle.std.specs.Prelude.{IfSome, map}
use Rattle.std.specs.String.{string_bytes}
use Rattle.std.proofs.lemmas.Result.{IfOk-weaker}
use Rattle.conc_top_words.specs.Words.{AreWithin}
use Rattle.conc_top_words.proofs.Bounds.{named-within}
use Rattle.conc_top_words.proofs.command.read_command.Goals as goal

pub returns-in-Some-clause-within : goal.returns-in-Some-clause-within
returns-in-Some-clause-within c =
    IfOk-weaker c.read_named.result _ _
    (λ command same. subst (λ o. IfSome o AreWithin) (sym same) (named-within c.as_bytes.result.now (map string_bytes c.in-Some.rest.now)))
    c.read_named.ensures
