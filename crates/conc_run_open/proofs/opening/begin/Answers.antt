use Rattle.std.proofs.Common.{ℕ, List, sym, subst}
use Rattle.conc_run_open.specs.Examined.{digests_held, MayStartWith, plan_held, readings_held}
use Rattle.conc_run_open.proofs.Beginning.{are-ready, begins, gives_up, may-start-with}
use Rattle.conc_run_open.proofs.opening.begin.Goals as goal

pub start-requires-clause-may : goal.start-requires-clause-may
start-requires-clause-may g c =
    let examined = c.args.examined in
    (plan_held examined, subst (λ (due : List ℕ). MayStartWith (plan_held examined) (digests_held examined) due examined.journal) (sym c.deref.ensures.value) c.requires.may)

pub returns-in-Ok-clause-begins : goal.returns-in-Ok-clause-begins
returns-in-Ok-clause-begins g c = λ before texts was.
    let made = c.in-Ok.ensures in
    let input = c.args.examined.input in
    let old = g.D.Disk.state c.args.journal.now in
    let spool = g.E.Disk.state c.args.spool.now in
    let may = may-start-with input.plan.now input.readings.now.list input.digests.now c.args.examined c.deref.result.now old spool c.deref.ensures.value was.is_examined.may_begin in
    record {
      begun = begins input.plan.now input.readings.now input.digests.now (g.D.Disk.state before) old (g.D.Disk.state c.start.new.disk) (g.E.Disk.state texts) spool
          c.args.examined was (c.start.ensures.survives input.plan.now may).survives c.start.new.journal
          (record { on = made.on; begun_for = made.begun_for input.plan.now may; version = made.version; all = made.opened.list; room = made.opened.room }) (made.written input.plan.now may);
      given_up = tt;
    }

pub returns-in-Ok-clause-ready : goal.returns-in-Ok-clause-ready
returns-in-Ok-clause-ready g c = λ may.
    let made = c.in-Ok.ensures in
    let examined = c.args.examined in
    let plan = plan_held examined in let readings = readings_held examined in
    let old = g.D.Disk.state c.args.journal.now in
    let spool = g.E.Disk.state c.args.spool.now in
    are-ready plan readings (digests_held examined) old (g.D.Disk.state c.start.new.disk) spool examined c.start.new.journal may
    (record { on = made.on; begun_for = made.begun_for plan (may-start-with plan readings (digests_held examined) examined c.deref.result.now old spool c.deref.ensures.value may); version = made.version; all = made.opened.list; room = made.opened.room })

pub returns-clause-begins : goal.returns-clause-begins
returns-clause-begins g c = λ before texts was.
    let input = c.args.examined.input in
    let old = g.D.Disk.state c.args.journal.now in
    let spool = g.E.Disk.state c.args.spool.now in
    let may = may-start-with input.plan.now input.readings.now.list input.digests.now c.args.examined c.deref.result.now old spool c.deref.ensures.value was.is_examined.may_begin in
    record {
      begun = tt;
      given_up = gives_up input.plan.now input.readings.now input.digests.now (g.D.Disk.state before) old (g.D.Disk.state c.start.new.disk) (g.E.Disk.state texts) spool
          c.args.examined was (c.start.ensures.survives input.plan.now may).survives (c.start.ensures.survives input.plan.now may).now;
    }
