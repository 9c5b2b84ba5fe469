use Rattle.std.proofs.Common.{◌*◌, All}
use Rattle.conc_test_bench_board.specs.Crews.{Fits}
use Rattle.conc_test_bench_board.specs.Leads.{IsFresh}
use Rattle.conc_test_bench_board.proofs.measure.lead_and_work.Given as goal

abbrev pub invariant-loop-round : goal.invariant-loop-round
invariant-loop-round g l = record {
  lead : IsFresh l.board (l.round * 64) l.lead;
  workers : All (Fits l.board) l.workers;
}
