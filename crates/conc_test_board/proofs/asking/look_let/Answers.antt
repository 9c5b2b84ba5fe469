use Rattle.conc_board.specs.Seats.{lead_state_of, plan_of}
use Rattle.conc_test_board.proofs.Rules.{let_still, only_one}
use Rattle.conc_test_board.proofs.asking.look_let.Goals as goal

pub returns-clause-lead : goal.returns-clause-lead
returns-clause-lead c = only_one _ _ _ _ c.look.ensures.lead

pub returns-clause-lead_state : goal.returns-clause-lead_state
returns-clause-lead_state c = (let_still (plan_of c.args.board.now) c.look.result (lead_state_of c.args.lead.now c.args.r) (lead_state_of c.look.new.lead c.args.r) c.look.ensures.lead_state c.requires.lead_state).0

pub returns-clause-seen : goal.returns-clause-seen
returns-clause-seen c = (let_still (plan_of c.args.board.now) c.look.result (lead_state_of c.args.lead.now c.args.r) (lead_state_of c.look.new.lead c.args.r) c.look.ensures.lead_state c.requires.lead_state).1
