use Rattle.std.proofs.Common.{List, None, Some, refl, subst, sym}
use Rattle.std.proofs.lemmas.Result.{err_from_is_err_and}
use Rattle.conc_types.specs.declared.event.Event.{Event}
use Rattle.conc_types.specs.declared.plan.Plan.{Plan}
use Rattle.conc_journal_spool.specs.Spools.{IsOn as SpoolIsOn}
use Rattle.conc_journal_spool.specs.declared.spool.Spool.{Spool}
use Rattle.conc_run_state.specs.Works.{HasPendingText}
use Rattle.conc_run_steps.specs.Steps.{plan_in, readings_in}
use Rattle.conc_run_steps.proofs.Pending.{tied-with, tied-without}
use Rattle.conc_run_steps.proofs.Logs.{rose-sound}
use Rattle.conc_run_steps.proofs.logging.log_event.Goals as goal

pub add_event-requires-clause-tied : goal.add_event-requires-clause-tied
add_event-requires-clause-tied g c =
    let work = c.args.work.now in
    tied-without (plan_in work) (readings_in work) (Some c.args.event) work (g.D.Disk.state c.args.journal.now) (g.E.Disk.state c.args.spool.now) c.requires.tied

pub returns : goal.returns
returns g c =
    let new = c.add_event.new.work in
    let disk = g.E.Disk.state c.args.spool.now in
    let all = c.add_event.ensures in
    let made = c.in_ok-add_event.ensures in record {
      logged = tied-with (plan_in new) (readings_in new) None new (g.D.Disk.state c.add_event.new.journal) disk made.logged
          (subst (λ (s : Spool). SpoolIsOn s disk) (sym all.spool) c.requires.tied.spool_on) tt;
      added = made.added;
      receipt = made.receipt;
      state = made.state;
      written = made.written;
      room = made.room;
      begun_for = made.begun_for;
      not_logged = tt;
      as_before = tt;
      failed = tt;
      held_for = tt;
      fault = tt;
      cause = tt;
      survives = all.survives;
      plan = all.plan;
      readings = all.readings;
      spool_stays = all.spool;
    }

pub returns-in_err-add_event : goal.returns-in_err-add_event
returns-in_err-add_event g c =
    let new = c.add_event.new.work in
    let disk = g.E.Disk.state c.args.spool.now in
    let all = c.add_event.ensures in
    let made = c.in_err-add_event.ensures in
    let p = err_from_is_err_and c.from_residual.result c.from_residual.ensures.1 in
    rw (p.1, p.2) (record {
      logged = tt;
      added = tt;
      receipt = tt;
      state = tt;
      written = tt;
      room = tt;
      begun_for = tt;
      not_logged = tied-with (plan_in new) (readings_in new) (Some c.args.event) new (g.D.Disk.state c.add_event.new.journal) disk made.not_logged
          (subst (λ (s : Spool). SpoolIsOn s disk) (sym all.spool) c.requires.tied.spool_on)
          (subst (λ (z : Plan × List Event). HasPendingText z.0 z.1 disk (Some c.args.event)) (λ i. (sym all.plan i, sym made.as_before i)) c.requires.tied.pending_text);
      as_before = made.as_before;
      failed = made.failed;
      held_for = made.held_for;
      fault = rose-sound _ _ made.fault c.requires.may.sound;
      cause = refl;
      survives = all.survives;
      plan = all.plan;
      readings = all.readings;
      spool_stays = all.spool;
    })
