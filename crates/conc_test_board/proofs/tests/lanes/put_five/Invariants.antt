use Rattle.std.specs.Prelude.{IsTrue}
use Rattle.conc_pool_lanes.specs.Lanes.{are_shorter, IsLeadPassOf, puts_of}
use Rattle.conc_test_board.proofs.tests.lanes.put_five.Given as goal

abbrev pub invariant-loop-number : goal.invariant-loop-number
invariant-loop-number g l = record {
  pass : IsLeadPassOf l.lanes l.lead;
  short : IsTrue (are_shorter l.number (puts_of l.lead));
}
