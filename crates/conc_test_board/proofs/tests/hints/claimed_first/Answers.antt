use Rattle.conc_test_board.proofs.Rules.{both_one, both_two}
use Rattle.conc_test_board.proofs.tests.hints.claimed_first.Goals as goal

pub returns-then-is_claimed : goal.returns-then-is_claimed
returns-then-is_claimed g c = record { lead = both_one c.args.board.now c.loop.lead c.is_claimed.new.lead c.loop.invariant.both c.is_claimed.ensures.lead c.is_claimed.ensures.lead_state }

pub is_claimed-requires-in-loop-clause-lead_state : goal.is_claimed-requires-in-loop-clause-lead_state
is_claimed-requires-in-loop-clause-lead_state g c =
    (both_one c.args.board.now c.loop.lead c.is_claimed.new.lead c.loop.invariant.both c.is_claimed.ensures.lead c.is_claimed.ensures.lead_state).two

pub returns-then-is_claimed-2 : goal.returns-then-is_claimed-2
returns-then-is_claimed-2 g c = record {
  lead = both_two c.args.board.now c.is_claimed.new.lead c.is_claimed-in-loop.new.lead
      (both_one c.args.board.now c.loop.lead c.is_claimed.new.lead c.loop.invariant.both c.is_claimed.ensures.lead c.is_claimed.ensures.lead_state)
      c.is_claimed-in-loop.ensures.lead c.is_claimed-in-loop.ensures.lead_state;
}

pub loop-preserved : goal.loop-preserved
loop-preserved g c = record {
  both = both_two c.args.board.now c.is_claimed.new.lead c.is_claimed-in-loop.new.lead
      (both_one c.args.board.now c.loop.lead c.is_claimed.new.lead c.loop.invariant.both c.is_claimed.ensures.lead c.is_claimed.ensures.lead_state)
      c.is_claimed-in-loop.ensures.lead c.is_claimed-in-loop.ensures.lead_state;
}
