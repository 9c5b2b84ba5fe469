use Rattle.std.proofs.Common.{◌≡◌, ◌∷◌, ◌++◌, [], None, Some, sym, subst, arith}
use Rattle.conc_run_choice.specs.Choices.{HasItsText}
use Rattle.conc_journal_spool.specs.Spools.{used_of}
use Rattle.conc_run_state.specs.Works.{list_in}
use Rattle.conc_run_steps.specs.Steps.{any_disk, plan_in, readings_in}
use Rattle.conc_run_steps.proofs.Coming.{lawful-past, text-fits, text-length, tied-pending, without-text}
use Rattle.conc_run_steps.proofs.Extents.{used-push}
use Rattle.conc_run_steps.proofs.Pending.{text-pending}
use Rattle.conc_run_steps.proofs.Texts.{stores-fault, stores-text, stores-without}
use Rattle.conc_run_steps.proofs.storing.store_text.Goals as goal

pub append-requires-clause-some : goal.append-requires-clause-some
append-requires-clause-some g c =
    let work = c.args.work.now in
    let plan = plan_in work in
    let is : c.args.next.now.text ≡ Some c.as_slice.result.now = cc in
    let past = lawful-past plan work.machine (readings_in work) (list_in work ++ c.args.next.now.event ∷ []) c.requires.tied.readings_are c.requires.lawful in
    (text-fits plan (list_in work) c.args.next.now.event c.as_slice.result.now (subst (HasItsText plan c.args.next.now.event) is c.requires.text) past).some

pub append-requires-clause-few : goal.append-requires-clause-few
append-requires-clause-few g c =
    let work = c.args.work.now in
    let plan = plan_in work in
    let is : c.args.next.now.text ≡ Some c.as_slice.result.now = cc in
    let past = lawful-past plan work.machine (readings_in work) (list_in work ++ c.args.next.now.event ∷ []) c.requires.tied.readings_are c.requires.lawful in
    (text-fits plan (list_in work) c.args.next.now.event c.as_slice.result.now (subst (HasItsText plan c.args.next.now.event) is c.requires.text) past).few

pub append-requires-clause-fits : goal.append-requires-clause-fits
append-requires-clause-fits g c =
    let work = c.args.work.now in
    let plan = plan_in work in
    let is : c.args.next.now.text ≡ Some c.as_slice.result.now = cc in
    let past = lawful-past plan work.machine (readings_in work) (list_in work ++ c.args.next.now.event ∷ []) c.requires.tied.readings_are c.requires.lawful in
    let fits = text-fits plan (list_in work) c.args.next.now.event c.as_slice.result.now (subst (HasItsText plan c.args.next.now.event) is c.requires.text) past in
    omega (arith, fits.below, c.requires.tied.used_is)

pub returns-in-None-clause-pending : goal.returns-in-None-clause-pending
returns-in-None-clause-pending g c =
    let work = c.args.work.now in
    let e = c.args.next.now.event in
    let plan = plan_in work in
    let spool = g.E.Disk.state c.args.spool.now in
    let stored = subst (HasItsText plan e) c.in-None.is c.requires.text in
    let later = lawful-past plan work.machine (readings_in work) (list_in work ++ e ∷ []) c.requires.tied.readings_are c.requires.lawful in
    tied-pending plan (readings_in work) e work work.spool any_disk spool spool c.requires.tied (omega (arith, without-text plan e stored)) c.requires.tied.spool_on
    (text-pending plan (used_of work.spool) (list_in work) e None spool spool stored later
    (stores-without plan (used_of work.spool) (list_in work) spool (g.met.E.Disk.seen_is_left c.args.spool.now) c.requires.tied.spool_on e stored))

pub returns-in-None-clause-stored : goal.returns-in-None-clause-stored
returns-in-None-clause-stored g c =
    let work = c.args.work.now in
    let e = c.args.next.now.event in
    stores-without (plan_in work) (used_of work.spool) (list_in work) (g.E.Disk.state c.args.spool.now) (g.met.E.Disk.seen_is_left c.args.spool.now) c.requires.tied.spool_on e
    (subst (HasItsText (plan_in work) e) c.in-None.is c.requires.text)

pub returns-in-Ok-clause-pending : goal.returns-in-Ok-clause-pending
returns-in-Ok-clause-pending g c =
    let work = c.args.work.now in
    let e = c.args.next.now.event in
    let is : c.args.next.now.text ≡ Some c.as_slice.result.now = cc in
    let plan = plan_in work in
    let list = list_in work in
    let text = c.as_slice.result.now in
    let spool = g.E.Disk.state c.args.spool.now in
    let spool' = g.E.Disk.state c.append.new.disk in
    let stored = subst (HasItsText plan e) is c.requires.text in
    let past = lawful-past plan work.machine (readings_in work) list c.requires.tied.readings_are c.requires.tied.lawful in
    let later = lawful-past plan work.machine (readings_in work) (list ++ e ∷ []) c.requires.tied.readings_are c.requires.lawful in
    tied-pending plan (readings_in work) e work c.append.new.self any_disk spool spool' c.requires.tied
    (omega (arith, c.in-Ok.ensures.used, text-length plan e text stored)) c.append.ensures.on
    (text-pending plan (used_of work.spool) list e (Some text) spool spool' stored later
    (stores-text plan (used_of work.spool) (used_of c.append.new.self) list spool spool' (g.met.E.Disk.seen_is_left c.args.spool.now)
    c.append.ensures.survives c.append.ensures.before c.append.ensures.on (sym c.requires.tied.used_is) e text stored past later
    (omega (arith, c.in-Ok.ensures.used, c.requires.tied.used_is, text-length plan e text stored, used-push list e)) c.in-Ok.ensures.text))

pub returns-in-Ok-clause-stored : goal.returns-in-Ok-clause-stored
returns-in-Ok-clause-stored g c =
    let work = c.args.work.now in
    let plan = plan_in work in
    let list = list_in work in
    let e = c.args.next.now.event in
    let text = c.as_slice.result.now in
    let is : c.args.next.now.text ≡ Some text = cc in
    let stored = subst (HasItsText plan e) is c.requires.text in
    let past = lawful-past plan work.machine (readings_in work) list c.requires.tied.readings_are c.requires.tied.lawful in
    let later = lawful-past plan work.machine (readings_in work) (list ++ e ∷ []) c.requires.tied.readings_are c.requires.lawful in
    stores-text plan (used_of work.spool) (used_of c.append.new.self) list (g.E.Disk.state c.args.spool.now) (g.E.Disk.state c.append.new.disk) (g.met.E.Disk.seen_is_left c.args.spool.now)
    c.append.ensures.survives c.append.ensures.before c.append.ensures.on (sym c.requires.tied.used_is) e text stored past later
    (omega (arith, c.in-Ok.ensures.used, c.requires.tied.used_is, text-length plan e text stored, used-push list e)) c.in-Ok.ensures.text

pub returns-in-Err-clause-as_before : goal.returns-in-Err-clause-as_before
returns-in-Err-clause-as_before g c =
    let work = c.args.work.now in
    let plan = plan_in work in
    let past = lawful-past plan work.machine (readings_in work) (list_in work) c.requires.tied.readings_are c.requires.tied.lawful in
    stores-fault plan (used_of work.spool) (used_of c.append.new.self) (list_in work) (g.E.Disk.state c.args.spool.now) (g.E.Disk.state c.append.new.disk) (g.met.E.Disk.seen_is_left c.args.spool.now)
    c.append.ensures.survives c.append.ensures.before c.append.ensures.on (sym c.requires.tied.used_is) past c.in-Err.ensures.unchanged
