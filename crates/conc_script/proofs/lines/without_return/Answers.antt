use Rattle.std.proofs.Common.{refl, ◌∙◌, ap, ℕ, List}
use denote.Ref.{Bor}
use Rattle.conc_script.proofs.LineEnds.{without_return_is}
use Rattle.conc_script.proofs.lines.without_return.Goals as goal

pub returns : goal.returns
returns c = ap (λ (x : Bor (List ℕ)). x.now) c.unwrap_or.ensures ∙ without_return_is c.args.line.now c.strip_suffix.result c.args.line refl c.strip_suffix.ensures.cases
