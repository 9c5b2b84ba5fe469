use Rattle.conc_pool_seats.specs.declared.views.LeadState.TheVariants.{NotLet}
use Rattle.std.proofs.Common.{◌≡◌}
use Rattle.conc_pool_seats.specs.LeadStates.{IsLet}
use Rattle.conc_test_bench_board.proofs.Facts.{IsWithin}
use Rattle.conc_test_bench_board.proofs.lead_calls.let_out_all.Given as goal

abbrev pub invariant-loop-index : goal.invariant-loop-index
invariant-loop-index l = IsWithin l.board l.first l.index IsLet (λ st. st ≡ NotLet) l.lead
