use Rattle.std.proofs.Common.{◌≤◌, length}
use Rattle.conc_pool_lanes.specs.Lanes.{IsHandPassOf}
use Rattle.conc_worker.specs.Working.{ComesToRest}
use Rattle.conc_worker.proofs.working.work.Given as goal

abbrev pub invariant-loop : goal.invariant-loop
invariant-loop g l = record {
  rests : ComesToRest l.board l.fn.hand l.hand;
  first : l.first ≤ length l.places;
  pass : IsHandPassOf l.fn.lanes l.pass;
}
