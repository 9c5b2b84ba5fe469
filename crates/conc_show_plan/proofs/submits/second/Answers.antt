use Rattle.std.proofs.Common.{refl, ◌∙◌, ap, ℕ, List}
use denote.Ref.{Bor}
use Rattle.conc_show_plan.proofs.EightFields.{field_is}
use Rattle.conc_show_plan.proofs.submits.second.Goals as goal

pub returns : goal.returns
returns c = ap (λ (x : Bor (List ℕ)). x.now) c.unwrap_or.ensures ∙ field_is _ 1 c.get.result _ refl c.get.ensures.value
