use Rattle.conc_test_board.proofs.Rules.{passes_last}
use Rattle.conc_test_board.proofs.tests.workers.hire.Goals as goal

pub returns-clause-pass : goal.returns-clause-pass
returns-clause-pass g c = λ lanes are. passes_last lanes c.args.passes.now.items c.pop.new.self.items c.in-Some.pass c.in-Some.ensures.items are
