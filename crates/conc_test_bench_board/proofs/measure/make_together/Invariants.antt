use Rattle.std.proofs.Common.{All}
use Rattle.conc_test_bench_board.specs.Crews.{Fits}
use Rattle.conc_test_bench_board.proofs.measure.make_together.Given as goal

abbrev pub invariant-loop-step : goal.invariant-loop-step
invariant-loop-step g l = All (Fits l.board) l.workers
