use Rattle.std.proofs.Common.{ap}
use mathlib.Core.Bool.{Bool-set}
use Rattle.conc_data_entries.proofs.program.filter_with.Goals as goal

pub returns : goal.returns
returns c = ap (λ short. record { column = c.args.column; test = c.args.test; value = c.args.value.text; short = short }) (Bool-set _ _ _ c.args.value.short)
