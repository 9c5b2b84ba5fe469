use Rattle.std.proofs.Common.{length}
use Rattle.conc_data_digests.proofs.files.+with_tables.Given as goal

abbrev pub decreases-with_tables : goal.decreases-with_tables
decreases-with_tables l = length l.tables.now
