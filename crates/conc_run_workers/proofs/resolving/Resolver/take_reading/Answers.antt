use Rattle.std.proofs.Common.{◌≡◌, true, None, refl, sym, ◌∙◌, arith}
use Rattle.conc_types.specs.declared.event.Event.TheVariants as event
use Rattle.conc_run_steps.specs.Steps.{readings_in}
use Rattle.conc_run_desk.specs.Desks.{list_at, plan_at}
use Rattle.conc_run_workers.proofs.Coming.{forced-at, may_take-at, next-at, not-some, tick-lawful}
use Rattle.conc_run_workers.proofs.Quiet.{tick-quiet}
use Rattle.conc_run_workers.proofs.Stepping.{handed, loans-same, none, read, unlogged}
use Rattle.conc_run_workers.proofs.resolving.Resolver.take_reading.Goals as goal

pub returns-then-is_some : goal.returns-then-is_some
returns-then-is_some g c = none c.requires (g.met.E.Disk.seen_is_left c.args.self.now.spool.now)

pub returns-then-not-may_tick : goal.returns-then-not-may_tick
returns-then-not-may_tick g c = none c.requires (g.met.E.Disk.seen_is_left c.args.self.now.spool.now)

pub returns-in_default : goal.returns-in_default
returns-in_default g c = none c.requires (g.met.E.Disk.seen_is_left c.args.self.now.spool.now)

pub log-requires-clause-lawful : goal.log-requires-clause-lawful
log-requires-clause-lawful g c =
    let d = c.args.self.now.desk.now in
    let m = c.machine-machine.ensures in
    let calm = forced-at c.machine-machine.result.now d m.machine m.stands c.forced.result None c.forced.ensures (not-some c.forced.result (sym c.is_some.ensures ∙ c.if-is_some.false)) in
    let goes = c.if-not-may_tick.false in
    let may : c.may_tick.result ≡ true = grind (arith, goes) in
    tick-lawful (plan_at d) (readings_in d.work) (list_at d) m.lawful calm c.in-Some.reading
    (next-at c.machine-machine.result.now d m.machine m.stands c.next_reading.result (readings_in d.work) m.readings c.next_reading.ensures ∙ c.in-Some.is)
    (may_take-at c.machine-machine.result.now d m.machine m.stands c.may_tick.result (readings_in d.work) m.readings c.may_tick.ensures may)

pub returns-in_err-log : goal.returns-in_err-log
returns-in_err-log g c = let t = c.in-Some.reading.moment in
    handed {B = Unit {0}} c.from_residual.result c.from_residual.ensures.1 (unlogged (event.Tick t) c.requires refl c.in_err-log.ensures)

pub returns : goal.returns
returns g c =
    let t = c.in-Some.reading.moment in read (event.Tick t) c.requires refl (tick-quiet t) c.in_ok-log.ensures (loans-same refl) refl c.set_places.ensures
