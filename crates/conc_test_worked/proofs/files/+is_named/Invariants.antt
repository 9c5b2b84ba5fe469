use Rattle.std.proofs.Common.{length}
use Rattle.conc_test_worked.proofs.files.+is_named.Given as goal

abbrev pub decreases-is_named : goal.decreases-is_named
decreases-is_named l = length l.files.now
