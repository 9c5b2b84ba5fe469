use Rattle.std.proofs.Common.{ap}
use Rattle.std.specs.Coded.{le_prop}
use Rattle.conc_data_fields.specs.Arrays.{within_most}
use Rattle.conc_data_entries.proofs.program.job_with.Goals as goal

pub returns : goal.returns
returns c =
    ap (λ few. record { table = c.args.table; filters = c.args.filters.list; group = c.args.group; sum = c.args.sum; warn_over = c.args.warn_over; error_over = c.args.error_over; few = few })
    (le_prop _ (within_most c.args.filters))
