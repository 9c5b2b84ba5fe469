use Rattle.std.proofs.Common.{◌≡◌, ◌≤◌}
use Rattle.conc_types.specs.declared.event.RequestId.{RequestId}
use Rattle.conc_pool_seats.specs.declared.views.LeadState.TheVariants.{NotLet}
use Rattle.conc_board.specs.Seats.{IsLeadOf, lead_state_of}
use Rattle.conc_test_board.proofs.tests.workers.see_all.Given as goal

abbrev pub invariant-loop-number : goal.invariant-loop-number
invariant-loop-number g l = record {
  lead : IsLeadOf l.board l.lead;
  not_yet : (r : RequestId) → l.number ≤ r.number → lead_state_of l.lead r ≡ NotLet;
}
