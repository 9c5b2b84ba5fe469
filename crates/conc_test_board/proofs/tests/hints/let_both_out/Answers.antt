use Rattle.std.proofs.Common.{◌∙◌}
use Rattle.conc_test_board.proofs.Rules.{both_let, two_not_one}
use Rattle.conc_test_board.proofs.tests.hints.let_both_out.Goals as goal

pub let_out_apart-requires-clause-lead_state : goal.let_out_apart-requires-clause-lead_state
let_out_apart-requires-clause-lead_state g c = c.requires.lead_states (record { number = 1 })

pub let_out_apart-requires-2-clause-lead_state : goal.let_out_apart-requires-2-clause-lead_state
let_out_apart-requires-2-clause-lead_state g c = c.let_out_apart.ensures.lead.others (record { number = 2 }) two_not_one ∙ c.requires.lead_states (record { number = 2 })

pub returns : goal.returns
returns g c = both_let c.args.board.now c.let_out_apart.new.lead c.let_out_apart-2.new.lead c.open_place.new.lead c.let_out_apart.ensures.lead_state c.let_out_apart-2.ensures.lead c.let_out_apart-2.ensures.lead_state c.open_place.ensures.lead
