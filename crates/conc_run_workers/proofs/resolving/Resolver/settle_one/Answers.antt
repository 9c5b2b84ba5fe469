use Rattle.std.proofs.Common.{◌≡◌, Some, true, refl, reverse, sym, subst}
use Rattle.conc_pool_lanes.specs.Lanes.{are_shorter, plan_of as plan_of_lanes, puts_of}
use Rattle.conc_pool_lanes.specs.Rooms.{room_for}
use Rattle.conc_run_workers.specs.declared.crew.Shared.{Shared}
use Rattle.conc_run_workers.specs.declared.resolving.Hints.{Hints}
use Rattle.conc_run_steps.specs.Steps.{readings_in}
use Rattle.conc_run_desk.specs.Desks.{list_at, plan_at}
use Rattle.conc_run_workers.proofs.Coming.{forced-at, forced-lawful, forced-no_resume, forced-seen}
use Rattle.conc_run_steps.proofs.Coming.{lawful-past}
use Rattle.conc_run_workers.proofs.Filled.{has-room}
use Rattle.conc_run_workers.proofs.Opening.{forced-no_tick}
use Rattle.conc_run_workers.proofs.Stepping.{handed, let-out, loans-same, none, unlogged}
use Rattle.conc_run_workers.proofs.resolving.Resolver.settle_one.Goals as goal

pub returns-in_default : goal.returns-in_default
returns-in_default g c = none c.requires (g.met.E.Disk.seen_is_left c.args.self.now.spool.now)

pub log-requires-clause-lawful : goal.log-requires-clause-lawful
log-requires-clause-lawful g c =
    let d = c.args.self.now.desk.now in let m = c.machine.ensures in
    let is = forced-at c.machine.result.now d m.machine m.stands c.forced.result (Some c.in-Some.event) c.forced.ensures c.in-Some.is in
    forced-lawful (plan_at d) (readings_in d.work) (list_at d) m.lawful c.in-Some.event is

pub log-requires-clause-no_resume : goal.log-requires-clause-no_resume
log-requires-clause-no_resume g c =
    let d = c.args.self.now.desk.now in let m = c.machine.ensures in
    let is = forced-at c.machine.result.now d m.machine m.stands c.forced.result (Some c.in-Some.event) c.forced.ensures c.in-Some.is in
    forced-no_resume (plan_at d) (readings_in d.work) (list_at d) m.lawful c.in-Some.event is

pub log-requires-clause-seen : goal.log-requires-clause-seen
log-requires-clause-seen g c =
    let d = c.args.self.now.desk.now in let m = c.machine.ensures in
    let is = forced-at c.machine.result.now d m.machine m.stands c.forced.result (Some c.in-Some.event) c.forced.ensures c.in-Some.is in
    (forced-seen (plan_at d) (reverse (list_at d)) c.in-Some.event d is).0

pub log-requires-clause-no_end : goal.log-requires-clause-no_end
log-requires-clause-no_end g c =
    let d = c.args.self.now.desk.now in let m = c.machine.ensures in
    let is = forced-at c.machine.result.now d m.machine m.stands c.forced.result (Some c.in-Some.event) c.forced.ensures c.in-Some.is in
    (forced-seen (plan_at d) (reverse (list_at d)) c.in-Some.event d is).1

pub let_out-requires-clause-room : goal.let_out-requires-clause-room
let_out-requires-clause-room g c =
    let r = c.args.self.now in let d = r.desk.now in let m = c.machine.ensures in
    subst (λ (z : Shared × Hints). are_shorter (room_for (plan_of_lanes z.0.lanes)) (puts_of z.1.pass) ≡ true) (λ i. (sym c.in_ok-log.ensures.loans.shared i, sym c.in_ok-log.ensures.hints i))
    (has-room r.shared.now.lanes d r.hints.now.pass c.requires.filled (lawful-past (plan_at d) c.machine.result.now (readings_in d.work) (list_at d) m.readings m.lawful))

pub returns-in_err-log : goal.returns-in_err-log
returns-in_err-log g c =
    let d = c.args.self.now.desk.now in let m = c.machine.ensures in
    let is = forced-at c.machine.result.now d m.machine m.stands c.forced.result (Some c.in-Some.event) c.forced.ensures c.in-Some.is in
    handed {B = Unit {0}} c.from_residual.result c.from_residual.ensures.1 (unlogged c.in-Some.event c.requires (forced-no_resume (plan_at d) (readings_in d.work) (list_at d) m.lawful c.in-Some.event is) c.in_err-log.ensures)

pub returns : goal.returns
returns g c =
    let d = c.args.self.now.desk.now in let m = c.machine.ensures in
    let is = forced-at c.machine.result.now d m.machine m.stands c.forced.result (Some c.in-Some.event) c.forced.ensures c.in-Some.is in
    let-out c.in-Some.event c.requires (forced-no_resume (plan_at d) (readings_in d.work) (list_at d) m.lawful c.in-Some.event is) (forced-no_tick (plan_at d) (reverse (list_at d)) c.in-Some.event is) c.in_ok-log.ensures (loans-same refl) refl c.let_out.ensures.stays c.let_out.ensures.pass c.let_out.ensures.put
