use Rattle.std.proofs.Common.{◌≡◌, Err, Ok, ◌∙◌, ap, arith}
use Rattle.std.proofs.lemmas.Result.{err_from_is_err_and}
use Rattle.std.specs.Result.{result_from_control_flow}
use Rattle.conc_disk.specs.Disk.{DiskState}
use Rattle.conc_run_open.specs.Examined.{list_found, plan_held, readings_held}
use Rattle.conc_run_state.specs.Fails.{of_run}
use Rattle.conc_run_state.specs.Handed.{Handed}
use Rattle.conc_run_state.specs.Stores.{handed_with}
use Rattle.conc_run_state.specs.Works.{list_in}
use Rattle.conc_run_state.specs.declared.error.RunFail.{RunFail}
use Rattle.conc_run_state.specs.declared.error.RunFail.TheVariants as run_fail
use Rattle.conc_run_steps.specs.Told.{IsTold}
use Rattle.conc_run_steps.proofs.Coming.{lawful-past}
use Rattle.conc_run_steps.proofs.Underway.{by-same}
use Rattle.conc_run.specs.Telling.{LacksTelling}
use Rattle.conc_run.proofs.Ended.{beside-short, ended-err, ends-err, ends-ok, on-ok, own-ready, ran-alone, ran-as, ran-beside, ran-none}
use Rattle.conc_run.proofs.Failing.{rose-since}
use Rattle.conc_run.proofs.Opened.{cut-begin}
use Rattle.conc_run.proofs.Telling.{own-told, resume-next, resume-told, resume-untold}
use Rattle.conc_run.proofs.workers.Workers.go_on.Goals as goal

-- ---- what is begun

pub tell_resume-requires : goal.tell_resume-requires
tell_resume-requires g c =
    let plan = plan_held c.args.examined in let readings = readings_held c.args.examined in
    let work = c.in_ok-work.field-0.work in
    let tied = (c.in_ok-work.ensures.ready c.requires.in_hand).tied in
    resume-next c.in_ok-work.field-0.resumed (g.T.Teller.list c.args.teller.now) (g.T.Teller.takes c.args.teller.now) plan (list_found c.args.examined) (list_in work) c.requires.told
    (lawful-past plan work.machine readings (list_in work) tied.readings_are tied.lawful) c.in_ok-work.ensures.resumed

pub run_told-requires-clause-ready : goal.run_told-requires-clause-ready
run_told-requires-clause-ready g c =
    own-ready (plan_held c.args.examined) (readings_held c.args.examined) c.in_ok-work.field-0.work (g.D.Disk.state c.begin.new.journal) (g.E.Disk.state c.args.spool.now) (c.in_ok-work.ensures.ready c.requires.in_hand)

pub run_told-requires-clause-told : goal.run_told-requires-clause-told
run_told-requires-clause-told g c =
    let teller = g.T.Teller in let ready = c.in_ok-work.ensures.ready c.requires.in_hand in
    own-told (plan_held c.args.examined) (readings_held c.args.examined) c.in_ok-work.field-0.work ready.tied.plan_is ready.tied.readings_are c.in_ok-work.field-0.resumed (teller.list c.args.teller.now) (teller.list c.tell_resume.new.teller)
    (teller.takes c.args.teller.now) (teller.takes c.tell_resume.new.teller) (list_found c.args.examined) c.in_ok-tell_resume.ensures.told c.tell_resume.ensures.takes c.requires.told c.in_ok-work.ensures.resumed c.in_ok-work.ensures.still

pub run_with_workers-work-requires-clause-ready : goal.run_with_workers-work-requires-clause-ready
run_with_workers-work-requires-clause-ready g c = λ κs lives.
    own-ready (plan_held c.args.examined) (readings_held c.args.examined) c.in_ok-work.field-0.work (g.D.Disk.state c.begin.new.journal) (g.E.Disk.state c.args.spool.now) (c.in_ok-work.ensures.ready c.requires.in_hand)

pub run_with_workers-work-requires-clause-told : goal.run_with_workers-work-requires-clause-told
run_with_workers-work-requires-clause-told g c = λ κs lives.
    let teller = g.T.Teller in let ready = c.in_ok-work.ensures.ready c.requires.in_hand in
    own-told (plan_held c.args.examined) (readings_held c.args.examined) c.in_ok-work.field-0.work ready.tied.plan_is ready.tied.readings_are c.in_ok-work.field-0.resumed (teller.list c.args.teller.now) (teller.list c.tell_resume.new.teller)
    (teller.takes c.args.teller.now) (teller.takes c.tell_resume.new.teller) (list_found c.args.examined) c.in_ok-tell_resume.ensures.told c.tell_resume.ensures.takes c.requires.told c.in_ok-work.ensures.resumed c.in_ok-work.ensures.still

-- ---- it ends before a run

pub returns-in_err-work-clause-ends : goal.returns-in_err-work-clause-ends
returns-in_err-work-clause-ends g c = λ before texts was.
    let p = err_from_is_err_and c.from_residual.result c.from_residual.ensures.1 in
    let input = c.args.examined.input in
    let h : Handed = handed_with g.D.Disk g.E.Disk input before c.begin.new.journal texts c.args.spool.now in
    let mid = g.D.Disk.state c.args.journal.now in
    let threads = c.args.self.now.threads in
    let untold = LacksTelling (g.T.Teller.may_lack c.args.teller.now) (g.T.Teller.list c.args.teller.now) in
    ended-err threads untold h c.from_residual.result p.0 c.in_err-work.field-0.0 p.1 p.2
    (cut-begin threads untold h c.in_err-work.field-0.0 c.in_err-work.ensures.cause
    (rose-since h.disks.journal_before.faults mid.faults h.disks.journal_after.faults was.untouched.journal_survives.faults c.in_err-work.ensures.fault) (c.in_err-work.ensures.begins before texts was).given_up
    (c.lawful_is_lawful_so_far.ensures input.plan.now input.readings.now) was.untouched.spool_survives)

pub returns-in_err-tell_resume-clause-ends : goal.returns-in_err-tell_resume-clause-ends
returns-in_err-tell_resume-clause-ends g c = λ before texts was.
    let p = err_from_is_err_and c.from_residual-in_err-tell_resume.result c.from_residual-in_err-tell_resume.ensures.1 in
    let input = c.args.examined.input in let plan = plan_held c.args.examined in let readings = readings_held c.args.examined in
    let work = c.in_ok-work.field-0.work in let resumed = c.in_ok-work.field-0.resumed in
    let h : Handed = handed_with g.D.Disk g.E.Disk input before c.begin.new.journal texts c.args.spool.now in
    let journal : DiskState = g.D.Disk.state c.begin.new.journal in
    let spool : DiskState = g.E.Disk.state c.args.spool.now in
    let begun = (c.in_ok-work.ensures.begins before texts was).begun in
    let told' = g.T.Teller.list c.tell_resume.new.teller in
    let untold = LacksTelling (g.T.Teller.may_lack c.tell_resume.new.teller) told' in
    let told = g.T.Teller.list c.args.teller.now in let takes = g.T.Teller.takes c.args.teller.now in
    let stood = resume-told resumed told takes plan (list_found c.args.examined) (list_in work) c.requires.told c.in_ok-work.ensures.resumed c.in_ok-work.ensures.still in
    let not_told = resume-untold resumed told told' takes plan (list_in work) c.in_err-tell_resume.ensures.some c.in_err-tell_resume.ensures.unchanged stood in
    let left = (g.met.E.Disk g.world.𝓛 g.world.𝓜 g.world.𝓡 ((λ s x. x), (λ x. x), (λ x. x), λ x. x)).seen_is_left c.args.spool.now in
    ends-err {A = Unit {0}} c.args.self.now.threads h journal spool work work begun (c.lawful_is_lawful_so_far.ensures input.plan.now input.readings.now) was.untouched.spool was.untouched.spool_survives untold run_fail.NoMemory
    c.from_residual-in_err-tell_resume.result p.0 p.1 (p.2 ∙ ap (λ (f : RunFail). of_run f) c.in_err-tell_resume.ensures.cause)
    (ran-none {A = Unit {0}} c.args.self.now.threads (untold begun.found) journal spool work (own-ready plan readings work journal spool (c.in_ok-work.ensures.ready c.requires.in_hand)) left (c.in_err-tell_resume.ensures.lacked, not_told))

-- ---- the run without workers

pub returns-in_err-run_told-clause-ends : goal.returns-in_err-run_told-clause-ends
returns-in_err-run_told-clause-ends g c = λ before texts was.
    let p = err_from_is_err_and c.from_residual-in_err-run_told.result c.from_residual-in_err-run_told.ensures.1 in
    let input = c.args.examined.input in
    let h : Handed = handed_with g.D.Disk g.E.Disk input before c.run_told.new.journal texts c.run_told.new.spool in
    let journal : DiskState = g.D.Disk.state c.begin.new.journal in
    let spool : DiskState = g.E.Disk.state c.args.spool.now in
    let begun = (c.in_ok-work.ensures.begins before texts was).begun in
    let untold = LacksTelling (g.T.Teller.may_lack c.run_told.new.teller) (g.T.Teller.list c.run_told.new.teller) in
    let made = c.in_err-run_told.ensures in
    ends-err c.args.self.now.threads h journal spool c.in_ok-work.field-0.work c.run_told.new.work begun (c.lawful_is_lawful_so_far.ensures input.plan.now input.readings.now) was.untouched.spool was.untouched.spool_survives untold c.in_err-run_told.field-0.0
    c.from_residual-in_err-run_told.result p.0 p.1 p.2
    (ran-alone (omega (arith, c.if-self-eq0.true)) c.run_told.ensures.went_on c.run_told.ensures.alone made.journal_fault made.spool_fault made.memory made.sound)

pub returns-then-self-eq0-clause-ends : goal.returns-then-self-eq0-clause-ends
returns-then-self-eq0-clause-ends g c = λ before texts was.
    let input = c.args.examined.input in
    let h : Handed = handed_with g.D.Disk g.E.Disk input before c.run_told.new.journal texts c.run_told.new.spool in
    let journal : DiskState = g.D.Disk.state c.begin.new.journal in
    let spool : DiskState = g.E.Disk.state c.args.spool.now in
    let begun = (c.in_ok-work.ensures.begins before texts was).begun in
    let untold = LacksTelling (g.T.Teller.may_lack c.run_told.new.teller) (g.T.Teller.list c.run_told.new.teller) in
    let made = c.in_ok-run_told.ensures in
    ends-ok c.args.self.now.threads h journal spool c.in_ok-work.field-0.work c.run_told.new.work begun (c.lawful_is_lawful_so_far.ensures input.plan.now input.readings.now) was.untouched.spool was.untouched.spool_survives untold c.in_ok-run_told.field-0
    (ran-alone (omega (arith, c.if-self-eq0.true)) c.run_told.ensures.went_on c.run_told.ensures.alone made.journal_fault made.spool_fault made.memory made.sound)
    (c.table_of_alone.ensures input.plan.now input.readings.now) made.finished

pub returns-then-self-eq0-clause-told : goal.returns-then-self-eq0-clause-told
returns-then-self-eq0-clause-told g c =
    let plan = plan_held c.args.examined in let readings = readings_held c.args.examined in
    let tied = (c.in_ok-work.ensures.ready c.requires.in_hand).tied in
    by-same plan readings c.in_ok-work.field-0.work tied.plan_is tied.readings_are (λ p _. IsTold (g.T.Teller.list c.run_told.new.teller) (g.T.Teller.takes c.run_told.new.teller) p (list_in c.run_told.new.work)) c.in_ok-run_told.ensures.told

-- ---- the run with workers

pub returns-in_err-answer-clause-ends : goal.returns-in_err-answer-clause-ends
returns-in_err-answer-clause-ends g c = λ before texts was.
    let p = err_from_is_err_and c.from_residual-in_err-answer.result c.from_residual-in_err-answer.ensures.1 in
    let input = c.args.examined.input in
    let with = c.run_with_workers-work in let made = c.run_with_workers-work.ensures in
    let is : with.result.answer ≡ Err c.in_err-answer.field-0.0 = c.branch-answer.ensures ∙ ap (λ f. result_from_control_flow f) c.in_err-answer.is in
    let h : Handed = handed_with g.D.Disk g.E.Disk input before with.new.journal texts with.new.spool in
    let journal : DiskState = g.D.Disk.state c.begin.new.journal in
    let spool : DiskState = g.E.Disk.state c.args.spool.now in
    let begun = (c.in_ok-work.ensures.begins before texts was).begun in
    let untold = LacksTelling (g.T.Teller.may_lack with.new.teller) (g.T.Teller.list with.new.teller) in
    ends-err c.args.self.now.threads h journal spool c.in_ok-work.field-0.work with.result.work begun (c.lawful_is_lawful_so_far.ensures input.plan.now input.readings.now) was.untouched.spool was.untouched.spool_survives untold c.in_err-answer.field-0.0
    c.from_residual-in_err-answer.result p.0 p.1 p.2
    (ran-as is (ran-beside (λ none. omega (arith, none, c.if-self-eq0.false)) made.went_on made.journal_fault made.spool_fault (λ lacks. beside-short with.result.pool (made.memory lacks)) made.sound))

pub returns-clause-ends : goal.returns-clause-ends
returns-clause-ends g c = λ before texts was.
    let input = c.args.examined.input in
    let with = c.run_with_workers-work in let made = c.run_with_workers-work.ensures in
    let is : with.result.answer ≡ Ok c.in_ok-answer.field-0 = c.branch-answer.ensures ∙ ap (λ f. result_from_control_flow f) c.in_ok-answer.is in
    let h : Handed = handed_with g.D.Disk g.E.Disk input before with.new.journal texts with.new.spool in
    let journal : DiskState = g.D.Disk.state c.begin.new.journal in
    let spool : DiskState = g.E.Disk.state c.args.spool.now in
    let begun = (c.in_ok-work.ensures.begins before texts was).begun in
    let untold = LacksTelling (g.T.Teller.may_lack with.new.teller) (g.T.Teller.list with.new.teller) in
    ends-ok c.args.self.now.threads h journal spool c.in_ok-work.field-0.work with.result.work begun (c.lawful_is_lawful_so_far.ensures input.plan.now input.readings.now) was.untouched.spool was.untouched.spool_survives untold c.in_ok-answer.field-0
    (ran-as is (ran-beside (λ none. omega (arith, none, c.if-self-eq0.false)) made.went_on made.journal_fault made.spool_fault (λ lacks. beside-short with.result.pool (made.memory lacks)) made.sound))
    (c.table_of_alone.ensures input.plan.now input.readings.now) (on-ok is made.finished)

pub returns-clause-told : goal.returns-clause-told
returns-clause-told g c =
    let with = c.run_with_workers-work in
    let is : c.run_with_workers-work.result.answer ≡ Ok c.in_ok-answer.field-0 = c.branch-answer.ensures ∙ ap (λ f. result_from_control_flow f) c.in_ok-answer.is in
    let plan = plan_held c.args.examined in let readings = readings_held c.args.examined in
    let tied = (c.in_ok-work.ensures.ready c.requires.in_hand).tied in
    by-same plan readings c.in_ok-work.field-0.work tied.plan_is tied.readings_are (λ p _. IsTold (g.T.Teller.list with.new.teller) (g.T.Teller.takes with.new.teller) p (list_in with.result.work))
    (on-ok is with.ensures.told)
