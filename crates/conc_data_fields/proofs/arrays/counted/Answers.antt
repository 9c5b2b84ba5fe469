use Rattle.conc_data_fields.proofs.Proven.{proven-pass}
use Rattle.conc_data_fields.proofs.arrays.counted.Goals as goal

pub returns-then-count-2 : goal.returns-then-count-2
returns-then-count-2 g c = proven-pass _ (λ counted. record { list = c.args.list; counted = counted }) _ _
