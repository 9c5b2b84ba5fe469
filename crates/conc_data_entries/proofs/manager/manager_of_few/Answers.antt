use Rattle.conc_data_entries.proofs.Few.{proven-few}
use Rattle.conc_data_entries.proofs.manager.manager_of_few.Goals as goal

pub returns-then-len-le64 : goal.returns-then-len-le64
returns-then-len-le64 c = proven-few _ 64 (λ few. record { name = c.args.name; include = c.args.include; exclude = c.args.exclude; shifts = c.args.shifts; few_rules = few }) _ _
