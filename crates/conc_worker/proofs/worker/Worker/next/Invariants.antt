use Rattle.conc_pool_lanes.specs.Lanes.{IsHandPassOf}
use Rattle.conc_worker.specs.Working.{ComesToRest}
use Rattle.conc_worker.proofs.worker.Worker.next.Given as goal

abbrev pub invariant-loop : goal.invariant-loop
invariant-loop g l = record {
  rests : ComesToRest l.self.board.now l.fn.hand l.hand;
  pass : IsHandPassOf l.self.lanes.now l.pass;
}

abbrev pub invariant-loop-2 : goal.invariant-loop-2
invariant-loop-2 g l = record {
  rests : ComesToRest l.self.board.now l.fn.hand l.hand;
  pass : IsHandPassOf l.self.lanes.now l.pass;
}
