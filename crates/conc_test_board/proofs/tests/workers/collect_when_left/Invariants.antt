use Rattle.conc_pool_seats.specs.LeadStates.{IsGone}
use Rattle.conc_board.specs.Seats.{lead_state_of}
use Rattle.conc_test_board.specs.Rounds.{OnlyOne}
use Rattle.conc_test_board.proofs.tests.workers.collect_when_left.Given as goal

abbrev pub invariant-loop : goal.invariant-loop
invariant-loop g l = record {
  lead : OnlyOne l.board l.r l.initial.lead l.lead;
  gone_still : IsGone (lead_state_of l.lead l.r);
}
