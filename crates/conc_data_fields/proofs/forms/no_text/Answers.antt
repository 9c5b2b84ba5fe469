use Rattle.std.proofs.Common.{◌∙◌, sym, subst}
use Rattle.std.specs.Prelude.{IsTrue}
use Rattle.conc_types.specs.Texts.{is_text}
use Rattle.conc_data_fields.specs.Forms.{is_text-empty}
use Rattle.conc_data_fields.proofs.forms.no_text.Goals as goal

pub invariant_of-result : goal.invariant_of-result
invariant_of-result g c =
    record { short = subst (λ b. IsTrue (is_text g.row.MOST b)) (sym (c.from_vec.ensures ∙ c.new.ensures.items)) (is_text-empty g.row.MOST) }
