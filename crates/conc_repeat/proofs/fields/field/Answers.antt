use Rattle.std.proofs.Common.{refl, ◌∙◌, ap, ℕ, List}
use denote.Ref.{Bor}
use Rattle.conc_repeat.proofs.NineFields.{field_is}
use Rattle.conc_repeat.proofs.fields.field.Goals as goal

pub returns : goal.returns
returns c = ap (λ (x : Bor (List ℕ)). x.now) c.unwrap_or.ensures ∙ field_is _ c.args.place c.get.result _ refl c.get.ensures.value
