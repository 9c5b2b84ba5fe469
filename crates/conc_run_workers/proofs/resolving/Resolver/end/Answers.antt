use Rattle.std.proofs.Common.{◌<◌, List, reverse, Option, Some, Result, Ok, Err, inl, refl, sym, ◌∙◌, ap, subst}
use Rattle.conc_types.specs.declared.event.Event.{Event}
use Rattle.conc_types.specs.declared.plan.Plan.{Plan}
use Rattle.conc_journal.specs.Journals.{list_of, room_of}
use Rattle.conc_journal.specs.declared.journal.Journal.{Journal}
use Rattle.conc_run_state.specs.Machines.{Machine, plan_of}
use Rattle.conc_journal_spool.specs.Spools.{used_of}
use Rattle.conc_run_state.specs.Works.{HasPendingText}
use Rattle.conc_run_state.specs.declared.error.RunFail.{RunFail}
use Rattle.conc_run_steps.specs.Steps.{any_disk, IsTied, readings_in, StoresOn}
use Rattle.conc_run_steps.proofs.Coming.{takes-one}
use Rattle.conc_run_steps.proofs.Texts.{stores-still}
use Rattle.conc_run_desk.specs.Desks.{list_at, plan_at}
use Rattle.conc_run_desk.specs.Keeping.{Keeps, LeavesDisk}
use Rattle.conc_run_desk.specs.declared.keeping.Kept.{Kept}
use Rattle.conc_run_workers.specs.Resolvers.{situation}
use Rattle.conc_run_workers.proofs.Ending.{end-no_resume, pending-tells}
use Rattle.conc_run_workers.proofs.Kept.{halts-unkept}
use Rattle.conc_run_workers.proofs.Logged.{advances-unkept, halts-unlogged, next-logged, told-answer}
use Rattle.conc_run_workers.proofs.Opening.{end-no_tick, opens-added, opens-kept}
use Rattle.conc_run_workers.proofs.Quiet.{adds-logged, adds-unlogged, end-quiet, quiet-after, quiet-empty, quiet-kept, quiet-one}
use Rattle.conc_run_workers.proofs.Stepping.{handed, loans-same, none, quiet}
use Rattle.conc_run_workers.proofs.resolving.Resolver.end.Goals as goal

pub returns-then-is_some : goal.returns-then-is_some
returns-then-is_some g c = none c.requires.may_step (g.met.E.Disk.seen_is_left c.args.self.now.spool.now)

-- ---- nothing is kept

pub returns-in_err-event : goal.returns-in_err-event
returns-in_err-event g c =
    let r = c.args.self.now in let d = r.desk.now in let mid = c.keep.new.self in let s = g.E.Disk.state r.spool.now in let s' = g.E.Disk.state c.keep.new.spool in let w = c.requires.may_step.at_work in
    let still = stores-still (plan_at d) (used_of d.work.spool) (list_at d) s (g.met.E.Disk.seen_is_left r.spool.now) w.ready.tied.spool_on in
    handed {B = Unit {0}} c.from_residual.result c.from_residual.ensures.1
    (quiet (Err _) c.requires.may_step (loans-same refl) refl
    (halts-unkept r.shared.now.board (situation g.D.Disk g.E.Disk g.T.Teller r) mid s' c.args.r c.in_err-event.field-0.0 w c.requires.request c.machine.ensures.tied c.keep.ensures.list c.keep.ensures.parts c.keep.ensures.on c.keep.ensures.at c.keep.ensures.others.places
    c.in_err-event.ensures.keeps c.in_err-event.ensures.takes
    (λ leaves. subst (λ x. StoresOn (plan_at d) (used_of d.work.spool) (list_at d) (list_at d) s (g.E.Disk.state x)) (sym (c.in_err-event.ensures.untouched (inl leaves))) still)
    c.in_err-event.ensures.failed)
    (quiet-kept d mid c.keep.ensures.list) tt)

pub returns-in_default : goal.returns-in_default
returns-in_default g c =
    let r = c.args.self.now in let d = r.desk.now in let mid = c.keep.new.self in let s = g.E.Disk.state r.spool.now in let s' = g.E.Disk.state c.keep.new.spool in let w = c.requires.may_step.at_work in
    let none = subst (λ (k : Kept). Keeps c.args.r (Ok k) d mid s s') c.in_default.is c.in_ok-event.ensures.keeps in
    let parts = subst (λ (k : Option Event). IsTied k mid.work any_disk any_disk) none c.keep.ensures.parts in
    let leaves = subst (λ (k : Kept). LeavesDisk (Ok k)) (sym c.in_default.is) tt in
    let same = c.in_ok-event.ensures.untouched (inl leaves) in
    let still = stores-still (plan_at d) (used_of d.work.spool) (list_at d) s (g.met.E.Disk.seen_is_left r.spool.now) w.ready.tied.spool_on in
    quiet _ c.requires.may_step (loans-same refl) refl
    (advances-unkept r.shared.now.board (situation g.D.Disk g.E.Disk g.T.Teller r) mid s' w c.keep.ensures.list parts c.keep.ensures.on c.keep.ensures.at c.keep.ensures.others.places
    (subst (λ x. StoresOn (plan_at d) (used_of d.work.spool) (list_at d) (list_at d) s (g.E.Disk.state x)) (sym same) still) none c.in_ok-event.ensures.goes_on)
    (quiet-kept d mid c.keep.ensures.list) (opens-kept c.keep.ensures.list c.keep.ensures.others.switches c.requires.may_step.opens)

-- ---- the end is logged

pub log_event-requires-clause-room : goal.log_event-requires-clause-room
log_event-requires-clause-room g c =
    let r = c.args.self.now in let d = r.desk.now in let mid = c.keep.new.self in let ready = c.requires.may_step.at_work.ready in let e = c.in-Ready.event in
    let kept = subst (λ (k : Kept). Keeps c.args.r (Ok k) d mid (g.E.Disk.state r.spool.now) (g.E.Disk.state c.keep.new.spool)) c.in-Ready.is c.in_ok-event.ensures.keeps in
    subst (λ (x : Journal). 0 < room_of x) (sym c.keep.ensures.list.journal)
    (takes-one (plan_at d) (readings_in d.work) d.work e ready.tied.readings_are (end-no_resume (plan_at d) (reverse (list_at d)) c.args.r e kept.is_end) ready.room kept.lawful)

pub tell-requires : goal.tell-requires
tell-requires g c =
    let r = c.args.self.now in let d = r.desk.now in let mid = c.keep.new.self in let new = c.log_event.new.self in let w = c.requires.may_step.at_work in let e = c.in-Ready.event in let made = c.log_event.ensures in
    let s = g.E.Disk.state r.spool.now in let s' = g.E.Disk.state c.keep.new.spool in let list = c.keep.ensures.list in
    let kept = subst (λ (k : Kept). Keeps c.args.r (Ok k) d mid s s') c.in-Ready.is c.in_ok-event.ensures.keeps in
    next-logged r.shared.now.board (situation g.D.Disk g.E.Disk g.T.Teller r) mid new (g.D.Disk.state c.log_event.new.journal) s' w list.machine list.journal c.keep.ensures.on e
    (end-no_resume (plan_at d) (reverse (list_at d)) c.args.r e kept.is_end) (pending-tells (plan_at d) (list_at d) s' e kept.text) kept.lawful kept.stores made.survives made.at c.keep.ensures.others.places c.in_ok-event.ensures.goes_on
    c.in_ok-receipt.ensures.logged made.parts made.on c.in_ok-receipt.ensures.written c.in_ok-receipt.receipt c.in_ok-receipt.ensures.receipt

pub returns-in_err-receipt : goal.returns-in_err-receipt
returns-in_err-receipt g c =
    let r = c.args.self.now in let d = r.desk.now in let mid = c.keep.new.self in let new = c.log_event.new.self in let w = c.requires.may_step.at_work in let e = c.in-Ready.event in let made = c.log_event.ensures in
    let s = g.E.Disk.state r.spool.now in let s' = g.E.Disk.state c.keep.new.spool in let list = c.keep.ensures.list in
    let kept = subst (λ (k : Kept). Keeps c.args.r (Ok k) d mid s s') c.in-Ready.is c.in_ok-event.ensures.keeps in
    let unlogged = c.in_err-receipt.ensures.unlogged in
    handed {B = Unit {0}} c.from_residual-in_err-receipt.result c.from_residual-in_err-receipt.ensures.1
    (quiet (Err _) c.requires.may_step (loans-same refl) refl
    (halts-unlogged r.shared.now.board (situation g.D.Disk g.E.Disk g.T.Teller r) mid new (g.D.Disk.state c.log_event.new.journal) s' w list.machine list.journal c.keep.ensures.on e
    (end-no_resume (plan_at d) (reverse (list_at d)) c.args.r e kept.is_end) (pending-tells (plan_at d) (list_at d) s' e kept.text) kept.lawful kept.stores made.survives made.at c.keep.ensures.others.places c.in_ok-event.ensures.goes_on
    (g.T.Teller.list r.teller.now) (g.T.Teller.takes r.teller.now) (g.T.Teller.may_lack r.teller.now) (Some e) unlogged made.parts made.on (unlogged.kept ∙ kept.kept)
    (subst (λ (z : Plan × List Event). HasPendingText z.0 z.1 s' (Some e))
    (λ i. (sym (ap (λ (m : Machine). plan_of m) (unlogged.machine ∙ list.machine)) i, sym (unlogged.list ∙ ap (λ (x : Journal). list_of x) list.journal) i)) kept.text) c.in_err-receipt.ensures.fault)
    (quiet-after d mid new (quiet-kept d mid list) (quiet-empty mid new (adds-unlogged e mid new unlogged))) tt)

pub returns-in_err-tell : goal.returns-in_err-tell
returns-in_err-tell g c =
    let r = c.args.self.now in let d = r.desk.now in let mid = c.keep.new.self in let new = c.log_event.new.self in let w = c.requires.may_step.at_work in let e = c.in-Ready.event in let made = c.log_event.ensures in
    let s = g.E.Disk.state r.spool.now in let s' = g.E.Disk.state c.keep.new.spool in let list = c.keep.ensures.list in
    let kept = subst (λ (k : Kept). Keeps c.args.r (Ok k) d mid s s') c.in-Ready.is c.in_ok-event.ensures.keeps in
    let calm = end-no_resume (plan_at d) (reverse (list_at d)) c.args.r e kept.is_end in
    let logged = c.in_ok-receipt.ensures.logged in let told = c.in_err-tell.ensures in let answer : Result Unit RunFail = Err c.in_err-tell.field-0.0 in
    handed {B = Unit {0}} c.from_residual-in_err-tell.result c.from_residual-in_err-tell.ensures.1
    (quiet answer c.requires.may_step (loans-same refl) refl
    (told-answer r.shared.now.board (situation g.D.Disk g.E.Disk g.T.Teller r) mid new (g.D.Disk.state c.log_event.new.journal) s' w list.machine list.journal c.keep.ensures.on e
    calm (pending-tells (plan_at d) (list_at d) s' e kept.text) kept.lawful kept.stores made.survives made.at c.keep.ensures.others.places c.in_ok-event.ensures.goes_on
    logged made.parts made.on c.in_ok-receipt.ensures.written (g.T.Teller.list c.tell.new.teller) (g.T.Teller.takes c.tell.new.teller) (g.T.Teller.may_lack c.tell.new.teller) c.in_ok-receipt.receipt answer
    c.in_ok-receipt.ensures.receipt tt told.unchanged c.tell.ensures.takes told.cause told.lacked)
    (quiet-after d mid new (quiet-kept d mid list) (quiet-one e mid new calm (end-quiet (plan_at d) (reverse (list_at d)) c.args.r e kept.is_end) (adds-logged e mid new logged))) tt)

pub returns : goal.returns
returns g c =
    let r = c.args.self.now in let d = r.desk.now in let mid = c.keep.new.self in let new = c.log_event.new.self in let w = c.requires.may_step.at_work in let e = c.in-Ready.event in let made = c.log_event.ensures in
    let s = g.E.Disk.state r.spool.now in let s' = g.E.Disk.state c.keep.new.spool in let list = c.keep.ensures.list in
    let kept = subst (λ (k : Kept). Keeps c.args.r (Ok k) d mid s s') c.in-Ready.is c.in_ok-event.ensures.keeps in
    let calm = end-no_resume (plan_at d) (reverse (list_at d)) c.args.r e kept.is_end in
    let logged = c.in_ok-receipt.ensures.logged in let answer : Result Unit RunFail = Ok tt in
    quiet _ c.requires.may_step (loans-same refl) refl
    (told-answer r.shared.now.board (situation g.D.Disk g.E.Disk g.T.Teller r) mid new (g.D.Disk.state c.log_event.new.journal) s' w list.machine list.journal c.keep.ensures.on e
    calm (pending-tells (plan_at d) (list_at d) s' e kept.text) kept.lawful kept.stores made.survives made.at c.keep.ensures.others.places c.in_ok-event.ensures.goes_on
    logged made.parts made.on c.in_ok-receipt.ensures.written (g.T.Teller.list c.tell.new.teller) (g.T.Teller.takes c.tell.new.teller) (g.T.Teller.may_lack c.tell.new.teller) c.in_ok-receipt.receipt answer
    c.in_ok-receipt.ensures.receipt c.in_ok-tell.ensures.told tt c.tell.ensures.takes tt tt)
    (quiet-after d mid new (quiet-kept d mid list) (quiet-one e mid new calm (end-quiet (plan_at d) (reverse (list_at d)) c.args.r e kept.is_end) (adds-logged e mid new logged)))
    (opens-added e (end-no_tick (plan_at d) (reverse (list_at d)) c.args.r e kept.is_end) (adds-logged e mid new logged) logged.follows.switches (opens-kept list c.keep.ensures.others.switches c.requires.may_step.opens))
