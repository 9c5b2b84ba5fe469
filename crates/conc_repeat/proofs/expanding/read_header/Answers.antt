use Rattle.std.proofs.Common.{◌∙◌, sym}
use Rattle.conc_repeat.proofs.FileFaults.{header_read}
use Rattle.conc_repeat.proofs.expanding.read_header.Goals as goal
use Rattle.conc_repeat.proofs.expanding.read_header.Goals.{then-some, else-some}

pub returns-clause-rest : goal.returns-clause-rest
returns-clause-rest c =
    elim c.if-some.branch [
      | then-some w ↦ (λ e. header_read _ _ _ (c.in_ok-some.ensures.some w.if-some.true) (sym e ∙ w.result-is ∙ w.is_header.ensures))
      | else-some w ↦ (λ e. absurd cc)
    ]
