use Rattle.std.proofs.Common.{◌≡◌, reverse}
use Rattle.conc_pool_lanes.specs.Lanes.{IsLeadPassOf, puts_of}
use Rattle.conc_pool_lanes.specs.Puts.{lists_for}
use Rattle.conc_run_desk.specs.Desks.{list_at, plan_at}
use Rattle.conc_run_workers.proofs.PutWaiting.{waiting_among}
use Rattle.conc_run_workers.proofs.boarding.put_waiting.Given as goal

abbrev pub invariant-loop-request : goal.invariant-loop-request
invariant-loop-request g l = record {
  items : l.request-items ≡ (plan_at l.desk).requests;
  pass : IsLeadPassOf l.lanes l.pass;
  put : puts_of l.pass ≡ lists_for (plan_at l.desk) (waiting_among (plan_at l.desk) (reverse (list_at l.desk)) l.request-items l.request-index);
}
