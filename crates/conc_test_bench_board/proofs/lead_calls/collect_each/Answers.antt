use Rattle.std.proofs.Common.{arith}
use Rattle.conc_test_bench_board.proofs.lead_calls.collect_each.Goals as goal

pub collect_nothing-fine-requires-clause-lead_state : goal.collect_nothing-fine-requires-clause-lead_state
collect_nothing-fine-requires-clause-lead_state c = c.loop-index.invariant.yet _ (omega arith) (omega arith)
