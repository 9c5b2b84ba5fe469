use Rattle.std.proofs.Common.{All}
use Rattle.conc_test_bench_board.specs.Crews.{Fits}
use Rattle.conc_test_bench_board.proofs.workers.make_all.Given as goal

abbrev pub invariant-loop-worker : goal.invariant-loop-worker
invariant-loop-worker g l = All (Fits l.board) l.workers
