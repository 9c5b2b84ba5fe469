use Rattle.std.proofs.Common.{arith}
use Rattle.std.proofs.lemmas.Grind.{common_steps}
use Rattle.conc_data_fields.proofs.Proven.{short_text}
use Rattle.conc_data_fields.proofs.forms.text_of.Goals as goal

pub returns-in_ok-to_vec : goal.returns-in_ok-to_vec
returns-in_ok-to_vec g c = short_text g.row.MOST c.args.bytes.now _ _ (grind (arith, common_steps))
