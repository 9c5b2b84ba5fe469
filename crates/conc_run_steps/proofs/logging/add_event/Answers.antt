use Rattle.std.proofs.Common.{◌≡◌, ◌∙◌, ℕ, ap, length, reverse, refl, rules, subst}
use Rattle.conc_journal.specs.Writes.{HasAppended}
use Rattle.conc_run_state.specs.Works.{list_in}
use Rattle.conc_run_state.specs.Adding.{stamp_for}
use Rattle.conc_run_state.proofs.Adding.{adds-one}
use Rattle.conc_run_steps.specs.Steps.{plan_in}
use Rattle.conc_types.specs.declared.plan.Plan.{Plan}
use Rattle.conc_run_steps.proofs.Coming.{tied-added}
use Rattle.conc_run_steps.proofs.Logs.{append-begun, append-held, append-survives}
use Rattle.conc_run_steps.proofs.Stamped.{lawful-stamped}
use Rattle.conc_run_steps.proofs.logging.add_event.Goals as goal

pub returns-in-Ok-clause-survives : goal.returns-in-Ok-clause-survives
returns-in-Ok-clause-survives g c =
    let work = c.args.work.now in
    append-survives work c.args.event c.stamp_due-stamp.result (g.D.Disk.state c.args.journal.now) (g.D.Disk.state c.append.new.disk)
    (lawful-stamped work c.args.event c.stamp_due-stamp.result (c.stamp_due-stamp.ensures ∙ ap (λ (p : Plan). stamp_for p c.args.event) c.plan.ensures) c.requires.tied.readings_are c.requires.lawful) c.append.ensures.survives

pub returns-in-Err-clause-survives : goal.returns-in-Err-clause-survives
returns-in-Err-clause-survives g c =
    let work = c.args.work.now in
    append-survives work c.args.event c.stamp_due-stamp.result (g.D.Disk.state c.args.journal.now) (g.D.Disk.state c.append.new.disk)
    (lawful-stamped work c.args.event c.stamp_due-stamp.result (c.stamp_due-stamp.ensures ∙ ap (λ (p : Plan). stamp_for p c.args.event) c.plan.ensures) c.requires.tied.readings_are c.requires.lawful) c.append.ensures.survives

pub returns-in-Ok-clause-begun_for : goal.returns-in-Ok-clause-begun_for
returns-in-Ok-clause-begun_for g c =
    let work = c.args.work.now in
    append-begun (plan_in work) work.journal c.append.new.self c.args.event c.stamp_due-stamp.result
    (lawful-stamped work c.args.event c.stamp_due-stamp.result (c.stamp_due-stamp.ensures ∙ ap (λ (p : Plan). stamp_for p c.args.event) c.plan.ensures) c.requires.tied.readings_are c.requires.lawful)
    c.in-Ok.ensures.appended c.in-Ok.ensures.stamped c.in-Ok.ensures.state

pub returns-in-Err-clause-held_for : goal.returns-in-Err-clause-held_for
returns-in-Err-clause-held_for g c =
    let work = c.args.work.now in
    append-held (plan_in work) work.journal c.append.new.self c.args.event c.stamp_due-stamp.result
    (lawful-stamped work c.args.event c.stamp_due-stamp.result (c.stamp_due-stamp.ensures ∙ ap (λ (p : Plan). stamp_for p c.args.event) c.plan.ensures) c.requires.tied.readings_are c.requires.lawful)
    c.in-Err.ensures.list c.in-Err.ensures.stamps (search rules)

pub returns-in-Ok-clause-logged : goal.returns-in-Ok-clause-logged
returns-in-Ok-clause-logged g c =
    let old = c.args.work.now in
    tied-added old (record { machine = c.apply.new.self; journal = c.append.new.self; spool = old.spool }) c.args.event (g.D.Disk.state c.args.journal.now) (g.D.Disk.state c.append.new.disk)
    c.requires.tied c.requires.lawful c.apply.ensures.plan c.apply.ensures.readings (c.apply.ensures.stands (reverse (list_in old)) c.requires.tied.stands) c.in-Ok.ensures.appended c.in-Ok.ensures.state refl c.append.ensures.on

pub returns-in-Ok-clause-written : goal.returns-in-Ok-clause-written
returns-in-Ok-clause-written g c =
    let work = c.args.work.now in let e = c.args.event in
    let stamp : c.stamp_due-stamp.result ≡ stamp_for (plan_in work) e = c.stamp_due-stamp.ensures ∙ ap (λ (p : Plan). stamp_for p e) c.plan.ensures in
    adds-one (plan_in work) (length (list_in work)) e (g.D.Disk.state c.args.journal.now) (g.D.Disk.state c.append.new.disk)
    (subst (λ (n : ℕ). HasAppended e n (length (list_in work)) (g.D.Disk.state c.args.journal.now) (g.D.Disk.state c.append.new.disk)) stamp c.in-Ok.ensures.written) c.append.ensures.survives.exposes
