use Rattle.std.proofs.Common.{◌≡◌, ◌≤◌}
use Rattle.conc_types.specs.declared.event.RequestId.{RequestId}
use Rattle.conc_board.specs.Seats.{TakesMore, plan_of}
use Rattle.conc_pool_seats.specs.LeadStates.{IsLet}
use Rattle.conc_pool_seats.specs.Words.{IsRequest}
use Rattle.conc_run_desk.specs.Desks.{lead_state_at}
use Rattle.conc_run_workers.specs.Resolving.{StaysAt}
use Rattle.conc_run_workers.proofs.boarding.withdraw_all.Given as goal

abbrev pub invariant-loop-request : goal.invariant-loop-request
invariant-loop-request l = record {
  stays : StaysAt l.board l.initial.desk l.desk;
  posts : TakesMore l.initial.desk.lead l.desk.lead;
  items : l.request-items ≡ (plan_of l.board).requests;
  none : (r : RequestId) → IsRequest (plan_of l.board) r → r.number ≤ l.request-index → IsLet (lead_state_at l.desk r) → ⊥;
}
