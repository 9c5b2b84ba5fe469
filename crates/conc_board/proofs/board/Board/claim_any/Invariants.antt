use Rattle.std.proofs.Common.{ℕ, List}
use Rattle.conc_board.specs.Claims.{AreMissed, ClaimsNone}
use Rattle.conc_board.proofs.board.Board.claim_any.Given as goal

abbrev pub invariant-loop-index : goal.invariant-loop-index
invariant-loop-index l = record {
  steps : List (ℕ × ℕ);
  made : ClaimsNone l.self l.initial.hand l.hand steps;
  missed : AreMissed l.at.plan.now l.at.place steps l.index;
}
