use Rattle.conc_board.specs.Claims.{HasClaim}
use Rattle.conc_worker.specs.Working.{MakesSteps}
use Rattle.conc_worker.proofs.worker.Worker.see_through.Given as goal

abbrev pub invariant-loop : goal.invariant-loop
invariant-loop g l = record {
  made : MakesSteps l.self.board.now l.fn.hand l.hand;
  waits : HasClaim l.hand l.claim;
}

abbrev pub invariant-loop-2 : goal.invariant-loop-2
invariant-loop-2 g l = record {
  made : MakesSteps l.self.board.now l.fn.hand l.hand;
  waits : HasClaim l.hand l.claim;
}
