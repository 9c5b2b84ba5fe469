use Rattle.std.proofs.Common.{◌≡◌, List, ◌<◌, length, arith, reverse, sym, ◌∙◌, ap, subst}
use Rattle.conc_types.specs.declared.plan.Plan.{Plan}
use Rattle.conc_types.specs.declared.plan.Req.{Req}
use Rattle.conc_base_law.specs.Words.{Has}
use Rattle.conc_pool_lanes.specs.Lanes.{IsLeadPassOf, puts_of}
use Rattle.conc_pool_lanes.specs.Puts.{lists_for, waits_to_start}
use Rattle.conc_pool_lanes.specs.declared.lanes.LeadPass.{LeadPass}
use Rattle.conc_run_desk.specs.Desks.{list_at, plan_at}
use Rattle.conc_run_state.specs.Machines.{Machine, plan_of}
use Rattle.conc_run_steps.specs.Steps.{readings_in}
use Rattle.conc_run_steps.proofs.Coming.{lawful-past}
use Rattle.conc_run_workers.proofs.Crews.{has-at}
use Rattle.conc_run_workers.proofs.PutWaiting.{all-filled, among-all, has-room-waiting, put-no, put-yes, says-waits}
use Rattle.conc_run_workers.proofs.boarding.put_waiting.Goals as goal
use Rattle.conc_run_workers.proofs.boarding.put_waiting.Goals.{then-waits_to_start, else-waits_to_start}

pub loop-request-init : goal.loop-request-init
loop-request-init g c = record {
  items = c.as_slice-request-items.ensures ∙ ap (λ (p : Plan). p.requests) (c.plan.ensures ∙ ap (λ (m : Machine). plan_of m) c.machine-machine.ensures.machine);
  pass = c.requires.pass;
  put = c.requires.empty;
}

pub put-requires-clause-room : goal.put-requires-clause-room
put-requires-clause-room g c =
    let d = c.args.desk.now in let m = c.machine-machine.ensures in let i = c.loop-request.invariant in
    has-room-waiting c.args.lanes.now (plan_at d) (list_at d) c.as_slice-request-items.result.now c.loop-request.request-index c.loop-request.pass c.requires.plan i.items
    (lawful-past (plan_at d) c.machine-machine.result.now (readings_in d.work) (list_at d) m.readings m.lawful) i.put

pub loop-request-preserved : goal.loop-request-preserved
loop-request-preserved g c =
    let d = c.args.desk.now in let plan = plan_at d in let past = reverse (list_at d) in let m = c.machine-machine.ensures in let i = c.loop-request.invariant in
    let items = c.as_slice-request-items.result.now in let n = c.loop-request.request-index in let x = c.request-item.result in
    let test = c.loop-request-test.true in let end = c.loop-request.auto.request-index-end in
    let below : n < length items = omega (arith, test, end) in
    let there : Has plan.requests x = subst (λ (l : List Req). Has l x) i.items (subst (λ (y : Req). Has items y) (sym c.request-item.is) (has-at items n x below)) in
    let says : c.waits_to_start.result ≡ waits_to_start plan past x =
    says-waits c.machine-machine.result.now plan past x c.waits_to_start.result (ap (λ (k : Machine). plan_of k) m.machine) m.stands c.waits_to_start.ensures there in
    elim c.if-waits_to_start.branch [
      | then-waits_to_start w ↦ record {
        items = i.items;
        pass = subst (λ (p : LeadPass). IsLeadPassOf c.args.lanes.now p) (sym w.pass-is) w.put.ensures.pass;
        put = ap (λ (p : LeadPass). puts_of p) w.pass-is
            ∙ put-yes c.args.lanes.now plan past items n x c.loop-request.pass w.put.new.pass c.requires.plan below c.request-item.is (sym says ∙ w.if-waits_to_start.true) i.put w.put.ensures.put;
      }
      | else-waits_to_start w ↦ record {
        items = i.items;
        pass = subst (λ (p : LeadPass). IsLeadPassOf c.args.lanes.now p) (sym w.pass-is) i.pass;
        put = ap (λ (p : LeadPass). puts_of p) w.pass-is ∙ put-no plan past items n x c.loop-request.pass below c.request-item.is (sym says ∙ w.if-waits_to_start.false) i.put;
      }
    ]

pub returns : goal.returns
returns g c =
    let d = c.args.desk.now in let i = c.loop-request.invariant in
    let items = c.as_slice-request-items.result.now in let n = c.loop-request.request-index in
    let test = c.loop-request-test.false in let end = c.loop-request.auto.request-index-end in
    all-filled c.args.lanes.now d c.loop-request.pass c.requires.plan c.requires.begun i.pass
    (i.put ∙ ap (lists_for (plan_at d)) (among-all (plan_at d) (reverse (list_at d)) items n i.items (omega (arith, test, end))))
