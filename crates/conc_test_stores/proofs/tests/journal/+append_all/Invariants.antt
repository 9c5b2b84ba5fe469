use Rattle.std.proofs.Common.{length}
use Rattle.conc_test_stores.proofs.tests.journal.+append_all.Given as goal

abbrev pub decreases-append_all : goal.decreases-append_all
decreases-append_all g l = length l.events.now
