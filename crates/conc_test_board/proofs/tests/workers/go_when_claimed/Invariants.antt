use Rattle.conc_pool_seats.specs.LeadStates.{IsLet}
use Rattle.conc_board.specs.Seats.{lead_state_of}
use Rattle.conc_test_board.specs.Rounds.{OnlyOne}
use Rattle.conc_test_board.proofs.tests.workers.go_when_claimed.Given as goal

abbrev pub invariant-loop : goal.invariant-loop
invariant-loop g l = record {
  lead : OnlyOne l.board l.r l.initial.lead l.lead;
  let_still : IsLet (lead_state_of l.lead l.r);
}
