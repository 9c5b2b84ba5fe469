use Rattle.std.proofs.Common.{sym, ◌∙◌, ap, length}
use Rattle.conc_types.specs.Expansion.{parts_by}
use Rattle.conc_plan.proofs.Commands.{length-parts}
use Rattle.conc_plan.proofs.expanding.entered_count.Goals as goal

pub returns-in-Submit-clause-count : goal.returns-in-Submit-clause-count
returns-in-Submit-clause-count c =
    c.request_count.ensures.count ∙ sym (length-parts c.args.setup.now c.in-Submit.item)
    ∙ sym (ap (λ a. length (parts_by c.args.setup.now a)) c.in-Submit.is)
