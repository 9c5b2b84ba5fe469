use Rattle.std.proofs.Common.{subst, sym}
use Rattle.conc_pool_seats.specs.LeadStates.{IsLet}
use Rattle.conc_test_board.proofs.Rules.{two_not_one}
use Rattle.conc_test_board.proofs.tests.hints.see_claimed.Goals as goal

pub back-requires-2-clause-lead_state : goal.back-requires-2-clause-lead_state
back-requires-2-clause-lead_state g c = subst IsLet (sym (c.back.ensures.lead.others (record { number = 2 }) two_not_one)) c.claimed_first-claimed.ensures.lead.two
