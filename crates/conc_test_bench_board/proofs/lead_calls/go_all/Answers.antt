use Rattle.std.proofs.Common.{arith}
use Rattle.conc_test_bench_board.proofs.lead_calls.go_all.Goals as goal

pub go_where_claimed-requires-clause-lead_state : goal.go_where_claimed-requires-clause-lead_state
go_where_claimed-requires-clause-lead_state c = c.loop-index.invariant.yet _ (omega arith) (omega arith)
