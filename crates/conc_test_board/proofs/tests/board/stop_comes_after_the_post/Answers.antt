use Rattle.conc_test_board.proofs.Rules.{only_one, only_one_after}
use Rattle.conc_test_board.proofs.tests.board.stop_comes_after_the_post.Goals as goal

pub returns-clause-lead : goal.returns-clause-lead
returns-clause-lead g c = only_one_after _ _ _ _ _ c.let_out_apart.ensures.lead (only_one_after _ _ _ _ _ c.go_where_claimed.ensures.lead (only_one_after _ _ _ _ _ (only_one _ _ _ _ c.stop.ensures.lead) c.collect_some.ensures.lead))
