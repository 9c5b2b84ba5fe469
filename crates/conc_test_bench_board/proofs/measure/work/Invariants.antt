use Rattle.std.proofs.Common.{All}
use Rattle.conc_test_bench_board.specs.Crews.{Fits}
use Rattle.conc_test_bench_board.proofs.measure.work.Given as goal

abbrev pub invariant-loop : goal.invariant-loop
invariant-loop g l = All (Fits l.board) l.workers
