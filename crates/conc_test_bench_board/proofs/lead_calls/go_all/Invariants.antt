use Rattle.conc_pool_seats.specs.LeadStates.{IsGone, IsLet}
use Rattle.conc_test_bench_board.proofs.Facts.{IsWithin}
use Rattle.conc_test_bench_board.proofs.lead_calls.go_all.Given as goal

abbrev pub invariant-loop-index : goal.invariant-loop-index
invariant-loop-index l = IsWithin l.board l.first l.index IsGone IsLet l.lead
