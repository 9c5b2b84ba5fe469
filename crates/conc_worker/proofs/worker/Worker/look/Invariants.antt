use Rattle.conc_pool_lanes.specs.Lanes.{IsHandPassOf}
use Rattle.conc_worker.specs.Working.{ComesToRest}
use Rattle.conc_worker.proofs.worker.Worker.look.Given as goal

abbrev pub invariant-loop-offset : goal.invariant-loop-offset
invariant-loop-offset g l = record {
  rests : ComesToRest l.self.board.now l.fn.hand l.hand;
  pass : IsHandPassOf l.self.lanes.now l.pass;
}
