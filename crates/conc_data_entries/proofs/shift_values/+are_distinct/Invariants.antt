use Rattle.std.proofs.Common.{length}
use Rattle.conc_data_entries.proofs.shift_values.+are_distinct.Given as goal

abbrev pub decreases-are_distinct : goal.decreases-are_distinct
decreases-are_distinct l = length l.days.now
