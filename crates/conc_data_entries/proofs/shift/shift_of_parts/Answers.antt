use Rattle.conc_data_fields.proofs.Proven.{proven-pass}
use Rattle.conc_data_entries.proofs.shift.shift_of_parts.Goals as goal

pub returns-then-is_shift : goal.returns-then-is_shift
returns-then-is_shift c = proven-pass _ (λ valid. record { date = c.args.date; days = c.args.days; times = c.args.times; places = c.args.places; valid = valid }) _ _
