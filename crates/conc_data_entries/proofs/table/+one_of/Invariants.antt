use Rattle.std.proofs.Common.{length}
use Rattle.conc_data_entries.proofs.table.+one_of.Given as goal

abbrev pub decreases-one_of : goal.decreases-one_of
decreases-one_of g l = length l.words.now
