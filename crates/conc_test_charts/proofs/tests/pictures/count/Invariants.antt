use Rattle.std.proofs.Common.{◌≤◌}
use Rattle.conc_test_charts.proofs.tests.pictures.count.Given as goal

abbrev pub invariant-loop-i : goal.invariant-loop-i
invariant-loop-i l = l.found ≤ l.i
