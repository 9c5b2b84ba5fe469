use Rattle.std.proofs.Common.{◌∙◌, ap, not, sym}
use Rattle.std.specs.Prelude.{is_some}
use Rattle.conc_base_law.specs.Next.{runs_somewhere}
use Rattle.conc_machine.proofs.Rest.{find-any, other-of, some-map}
use Rattle.conc_machine.proofs.judging.none_runs.Goals as goal

pub returns : goal.returns
returns c =
    other-of _ _ c.is_none.ensures
    ∙ ap not (sym (some-map _ c.first.result) ∙ ap is_some c.first.ensures ∙ find-any (runs_somewhere c.args.indexes.now.state) c.args.plan.now.requests)
