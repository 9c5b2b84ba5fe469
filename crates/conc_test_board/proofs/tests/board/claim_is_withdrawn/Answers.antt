use Rattle.conc_test_board.proofs.Rules.{only_one, only_one_after}
use Rattle.conc_test_board.proofs.tests.board.claim_is_withdrawn.Goals as goal

pub returns-clause-lead : goal.returns-clause-lead
returns-clause-lead g c = only_one_after _ _ _ _ _ c.let_out_apart.ensures.lead (only_one_after _ _ _ _ _ c.look_let.ensures.lead (only_one_after _ _ _ _ _ c.look_let-2.ensures.lead (only_one _ _ _ _ c.back.ensures.lead)))
