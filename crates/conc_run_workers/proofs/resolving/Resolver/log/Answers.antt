use Rattle.std.proofs.Common.{None, inl, refl, ◌∙◌, ap}
use Rattle.conc_board.specs.declared.lead.Lead.{Lead}
use Rattle.conc_board.specs.Seats.{switch_of}
use Rattle.conc_journal_spool.specs.Spools.{used_of}
use Rattle.conc_run_steps.specs.Steps.{readings_in}
use Rattle.conc_run_steps.proofs.Coming.{takes-one}
use Rattle.conc_run_steps.proofs.Texts.{stores-without}
use Rattle.conc_run_desk.specs.Desks.{list_at, plan_at}
use Rattle.conc_run_workers.specs.Resolvers.{situation}
use Rattle.conc_run_workers.proofs.Ending.{plain-tells, plain-text}
use Rattle.conc_run_workers.proofs.Logged.{halts-unlogged, next-logged, told-answer}
use Rattle.conc_run_workers.proofs.Quiet.{adds-logged, adds-told, adds-unlogged}
use Rattle.conc_run_workers.proofs.Stepping.{loans-same, logs-handed}
use Rattle.conc_run_workers.proofs.resolving.Resolver.log.Goals as goal

pub log_event-requires-clause-room : goal.log_event-requires-clause-room
log_event-requires-clause-room g c =
    let d = c.args.self.now.desk.now in let ready = c.requires.may_step.at_work.ready in
    takes-one (plan_at d) (readings_in d.work) d.work c.args.event ready.tied.readings_are c.requires.no_resume ready.room c.requires.lawful

pub tell-requires : goal.tell-requires
tell-requires g c =
    let r = c.args.self.now in let d = r.desk.now in let new = c.log_event.new.self in let w = c.requires.may_step.at_work in let e = c.args.event in let made = c.log_event.ensures in
    let j' = g.D.Disk.state c.log_event.new.journal in let s = g.E.Disk.state r.spool.now in
    let stores = stores-without (plan_at d) (used_of d.work.spool) (list_at d) s (g.met.E.Disk.seen_is_left r.spool.now) w.ready.tied.spool_on e (plain-text (plan_at d) e c.requires.no_end) in
    next-logged r.shared.now.board (situation g.D.Disk g.E.Disk g.T.Teller r) d new j' s w refl refl w.ready.tied.spool_on e c.requires.no_resume (plain-tells (plan_at d) e c.requires.no_end) c.requires.lawful stores made.survives made.at refl refl
    c.in_ok-receipt.ensures.logged made.parts made.on c.in_ok-receipt.ensures.written c.in_ok-receipt.receipt c.in_ok-receipt.ensures.receipt

pub returns-in_err-receipt : goal.returns-in_err-receipt
returns-in_err-receipt g c =
    let r = c.args.self.now in let d = r.desk.now in let new = c.log_event.new.self in let w = c.requires.may_step.at_work in let e = c.args.event in let made = c.log_event.ensures in
    let j' = g.D.Disk.state c.log_event.new.journal in let s = g.E.Disk.state r.spool.now in
    let stores = stores-without (plan_at d) (used_of d.work.spool) (list_at d) s (g.met.E.Disk.seen_is_left r.spool.now) w.ready.tied.spool_on e (plain-text (plan_at d) e c.requires.no_end) in
    let unlogged = c.in_err-receipt.ensures.unlogged in
    logs-handed c.from_residual.result c.from_residual.ensures.1 (record {
      loans = loans-same refl;
      hints = refl;
      resolves = halts-unlogged r.shared.now.board (situation g.D.Disk g.E.Disk g.T.Teller r) d new j' s w refl refl w.ready.tied.spool_on e c.requires.no_resume (plain-tells (plan_at d) e c.requires.no_end) c.requires.lawful stores made.survives made.at refl refl
          (g.T.Teller.list r.teller.now) (g.T.Teller.takes r.teller.now) (g.T.Teller.may_lack r.teller.now) None unlogged made.parts made.on (unlogged.kept ∙ w.nothing_kept) tt c.in_err-receipt.ensures.fault;
      adds = inl (adds-unlogged e d new unlogged);
      switches = record { each = λ word. ap (λ (l : Lead). switch_of l word) unlogged.lead };
    })

pub returns : goal.returns
returns g c =
    let r = c.args.self.now in let d = r.desk.now in let new = c.log_event.new.self in let w = c.requires.may_step.at_work in let e = c.args.event in let made = c.log_event.ensures in
    let j' = g.D.Disk.state c.log_event.new.journal in let s = g.E.Disk.state r.spool.now in
    let stores = stores-without (plan_at d) (used_of d.work.spool) (list_at d) s (g.met.E.Disk.seen_is_left r.spool.now) w.ready.tied.spool_on e (plain-text (plan_at d) e c.requires.no_end) in
    let told = c.tell.ensures in record {
      loans = loans-same refl;
      hints = refl;
      resolves = told-answer r.shared.now.board (situation g.D.Disk g.E.Disk g.T.Teller r) d new j' s w refl refl w.ready.tied.spool_on e c.requires.no_resume (plain-tells (plan_at d) e c.requires.no_end) c.requires.lawful stores made.survives made.at refl refl
          c.in_ok-receipt.ensures.logged made.parts made.on c.in_ok-receipt.ensures.written (g.T.Teller.list c.tell.new.teller) (g.T.Teller.takes c.tell.new.teller) (g.T.Teller.may_lack c.tell.new.teller) c.in_ok-receipt.receipt c.tell.result
          c.in_ok-receipt.ensures.receipt told.told told.unchanged told.takes told.cause told.lacked;
      adds = adds-told e d new c.tell.result (adds-logged e d new c.in_ok-receipt.ensures.logged);
      switches = c.in_ok-receipt.ensures.logged.follows.switches;
    }
