use Rattle.conc_test_board.proofs.Rules.{only_one, only_one_after, only_one_kept}
use Rattle.conc_test_board.proofs.tests.board.place_is_closed.Goals as goal

pub returns-clause-lead : goal.returns-clause-lead
returns-clause-lead g c = only_one_after _ _ _ _ _ c.let_out_apart.ensures.lead (only_one_after _ _ _ _ _ (only_one_kept _ _ _ _ c.close_place.ensures.lead) (only_one_after _ _ _ _ _ (only_one_kept _ _ _ _ c.open_place.ensures.lead) (only_one _ _ _ _ c.back.ensures.lead)))
