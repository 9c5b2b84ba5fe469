use Rattle.std.proofs.Common.{arith}
use Rattle.conc_test_bench_board.proofs.lead_calls.let_out_all.Goals as goal

pub let_out-requires-clause-lead_state : goal.let_out-requires-clause-lead_state
let_out-requires-clause-lead_state c = c.loop-index.invariant.yet _ (omega arith) (omega arith)
