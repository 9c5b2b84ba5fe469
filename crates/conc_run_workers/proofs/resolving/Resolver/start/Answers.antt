use Rattle.std.proofs.Common.{None, refl, sym, ◌∙◌}
use Rattle.conc_types.specs.declared.event.Event.TheVariants as event
use Rattle.conc_run_steps.specs.Steps.{readings_in}
use Rattle.conc_run_desk.specs.Desks.{list_at, plan_at}
use Rattle.conc_run_workers.proofs.Coming.{forced-at, may_start-at, not-some, start-lawful}
use Rattle.conc_run_workers.proofs.Advancing.{stays-moves, stays-twice}
use Rattle.conc_run_workers.proofs.Quiet.{start-quiet}
use Rattle.conc_run_workers.proofs.Stepping.{both, handed, logged, loans-same, noted, ok, on-board, may-step}
use Rattle.conc_run_workers.proofs.resolving.Resolver.start.Goals as goal

pub returns-in_default : goal.returns-in_default
returns-in_default g c = ok (on-board c.requires.may_step (g.met.E.Disk.seen_is_left c.args.self.now.spool.now) (loans-same refl) refl (stays-moves c.look.ensures.moves))

pub returns-then-is_some : goal.returns-then-is_some
returns-then-is_some g c = ok (on-board c.requires.may_step (g.met.E.Disk.seen_is_left c.args.self.now.spool.now) (loans-same refl) refl (stays-moves c.look.ensures.moves))

pub log-requires-clause-may_step : goal.log-requires-clause-may_step
log-requires-clause-may_step g c = may-step (on-board c.requires.may_step (g.met.E.Disk.seen_is_left c.args.self.now.spool.now) (loans-same refl) refl (stays-moves c.look.ensures.moves))

pub log-requires-clause-lawful : goal.log-requires-clause-lawful
log-requires-clause-lawful g c =
    let d = c.look.new.self in
    let m = c.machine-machine.ensures in
    let calm = forced-at c.machine-machine.result.now d m.machine m.stands c.forced.result None c.forced.ensures (not-some c.forced.result (sym c.is_some.ensures ∙ c.if-is_some.false)) in
    start-lawful (plan_at d) (readings_in d.work) (list_at d) m.lawful calm c.args.r c.in-Claimed.place
    (may_start-at c.machine-machine.result.now d m.machine m.stands c.may_start.result c.args.r c.in-Claimed.place c.may_start.ensures c.if-may_start.true)

pub returns-in_err-log : goal.returns-in_err-log
returns-in_err-log g c =
    let looked = on-board c.requires.may_step (g.met.E.Disk.seen_is_left c.args.self.now.spool.now) (loans-same refl) refl (stays-moves c.look.ensures.moves) in
    handed {B = Unit {0}} c.from_residual.result c.from_residual.ensures.1
    (both looked (logged (event.Started c.args.r c.in-Claimed.place) _ (may-step looked) refl (start-quiet c.args.r c.in-Claimed.place) refl c.in_err-log.ensures))

pub returns-then-may_start : goal.returns-then-may_start
returns-then-may_start g c =
    let looked = on-board c.requires.may_step (g.met.E.Disk.seen_is_left c.args.self.now.spool.now) (loans-same refl) refl (stays-moves c.look.ensures.moves) in
    noted (both looked (logged (event.Started c.args.r c.in-Claimed.place) _ (may-step looked) refl (start-quiet c.args.r c.in-Claimed.place) refl c.in_ok-log.ensures)) (loans-same refl) refl

pub returns-then-usable : goal.returns-then-usable
returns-then-usable g c = ok (on-board c.requires.may_step (g.met.E.Disk.seen_is_left c.args.self.now.spool.now) (loans-same refl) refl (stays-moves c.look.ensures.moves))

pub returns : goal.returns
returns g c =
    ok (on-board c.requires.may_step (g.met.E.Disk.seen_is_left c.args.self.now.spool.now) (loans-same refl) refl (stays-twice (stays-moves c.look.ensures.moves) (stays-twice c.withdraw.ensures.stays c.release.ensures)))
