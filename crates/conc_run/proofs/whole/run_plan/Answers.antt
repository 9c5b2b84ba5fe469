use Rattle.std.proofs.Common.{inl, Err, Ok, refl}
use Rattle.std.proofs.lemmas.Result.{err_from_is_err_and}
use Rattle.conc_disk.specs.Disk.{DiskState}
use Rattle.conc_run_state.specs.Disks.{disks}
use Rattle.conc_run_state.specs.Handed.{Handed}
use Rattle.conc_run_state.specs.Stores.{handed_with}
use Rattle.conc_run.specs.Whole.{LacksToTell}
use Rattle.conc_run.proofs.Ended.{Ran, ran-err, ran-ok}
use Rattle.conc_run.proofs.Opened.{cut-opening}
use Rattle.conc_run.proofs.whole.run_plan.Goals as goal

pub returns-in_err-work-clause-cut_short : goal.returns-in_err-work-clause-cut_short
returns-in_err-work-clause-cut_short g c =
    let p = err_from_is_err_and c.from_residual.result c.from_residual.ensures.1 in
    let h : Handed = handed_with g.D.Disk g.E.Disk c.args.input.now c.args.stores.now.journal.now c.open.new.stores.journal.now c.args.stores.now.spool.now c.open.new.stores.spool.now in
    rw (p.1, p.2)
    (cut-opening 0 (LacksToTell 0) h c.in_err-work.field-0.0 c.in_err-work.ensures.cause c.in_err-work.ensures.untouched c.in_err-work.ensures.given_up
    (c.lawful_is_lawful_so_far.ensures c.args.input.now.plan.now c.args.input.now.readings.now) c.open.ensures.spool_survives)

pub returns-in_err-run_alone-clause-cut_short : goal.returns-in_err-run_alone-clause-cut_short
returns-in_err-run_alone-clause-cut_short g c =
    let p = err_from_is_err_and c.from_residual-in_err-run_alone.result c.from_residual-in_err-run_alone.ensures.1 in
    let h : Handed = handed_with g.D.Disk g.E.Disk c.args.input.now c.args.stores.now.journal.now c.run_alone.new.journal c.args.stores.now.spool.now c.run_alone.new.spool in
    let journal : DiskState = g.D.Disk.state c.open.new.stores.journal.now in
    let spool : DiskState = g.E.Disk.state c.open.new.stores.spool.now in
    let begun = c.in_ok-work.ensures.begun in
    let fail = c.in_err-run_alone.field-0.0 in
    let made = c.in_err-run_alone.ensures in
    let ran : Ran 0 (LacksToTell 0 begun.found) (disks journal h.disks.journal_after spool h.disks.spool_after) (Err fail) c.in_ok-work.work c.run_alone.new.work = record {
      went_on = c.run_alone.ensures.went_on;
      alone = λ none. c.run_alone.ensures.alone;
      journal_fault = made.journal_fault;
      spool_fault = made.spool_fault;
      memory_alone = λ none is. inl (made.memory is);
      memory_beside = λ some is. absurd (some refl);
      sound = made.sound;
    } in
    rw (p.1, p.2)
    (ran-err 0 h journal spool c.in_ok-work.work c.run_alone.new.work begun (c.lawful_is_lawful_so_far.ensures c.args.input.now.plan.now c.args.input.now.readings.now) c.open.ensures.spool c.open.ensures.spool_survives
    (LacksToTell 0) fail ran)

pub returns-clause-finished : goal.returns-clause-finished
returns-clause-finished g c =
    let h : Handed = handed_with g.D.Disk g.E.Disk c.args.input.now c.args.stores.now.journal.now c.run_alone.new.journal c.args.stores.now.spool.now c.run_alone.new.spool in
    let journal : DiskState = g.D.Disk.state c.open.new.stores.journal.now in
    let spool : DiskState = g.E.Disk.state c.open.new.stores.spool.now in
    let begun = c.in_ok-work.ensures.begun in
    let made = c.in_ok-run_alone.ensures in
    let ran : Ran 0 (LacksToTell 0 begun.found) (disks journal h.disks.journal_after spool h.disks.spool_after) (Ok c.in_ok-run_alone.field-0) c.in_ok-work.work c.run_alone.new.work = record {
      went_on = c.run_alone.ensures.went_on;
      alone = λ none. c.run_alone.ensures.alone;
      journal_fault = made.journal_fault;
      spool_fault = made.spool_fault;
      memory_alone = λ none is. inl (made.memory is);
      memory_beside = λ some is. absurd (some refl);
      sound = made.sound;
    } in
    ran-ok 0 h journal spool c.in_ok-work.work c.run_alone.new.work begun (c.lawful_is_lawful_so_far.ensures c.args.input.now.plan.now c.args.input.now.readings.now) c.open.ensures.spool c.open.ensures.spool_survives
    ran (c.table_of_alone.ensures c.args.input.now.plan.now c.args.input.now.readings.now) made.finished
