use Rattle.std.proofs.Common.{◌∙◌, ap, not, sym}
use Rattle.std.specs.Prelude.{is_some}
use Rattle.conc_machine.proofs.Rest.{first_start-any, other-of, some-map}
use Rattle.conc_machine.proofs.judging.none_may_start.Goals as goal

pub returns : goal.returns
returns c =
    other-of _ _ c.is_none.ensures
    ∙ ap not (sym (some-map _ c.first_start.result) ∙ ap is_some c.first_start.ensures ∙ first_start-any c.args.plan.now c.args.indexes.now.state)
