use Rattle.conc_test_board.specs.Rounds.{AreBothLet}
use Rattle.conc_test_board.proofs.tests.hints.claimed_first.Given as goal

abbrev pub invariant-loop : goal.invariant-loop
invariant-loop g l = record {
  both : AreBothLet l.board l.lead;
}
