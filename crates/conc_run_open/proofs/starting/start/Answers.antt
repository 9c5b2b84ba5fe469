use Rattle.std.proofs.Common.{List, refl, sym, ap, ◌∙◌, subst}
use Rattle.conc_types.specs.declared.event.Event.{Event}
use Rattle.conc_disk.specs.Left.{EachImage}
use Rattle.conc_journal_image.specs.Headers.{label_for}
use Rattle.conc_base_law.specs.Alone.{opening}
use Rattle.conc_journal.specs.JournalStates.{has_faulted, takes_events}
use Rattle.conc_run_state.specs.Survival.{Survives}
use Rattle.conc_run_open.proofs.Renewing.{version-two}
use Rattle.conc_run_open.proofs.Resuming.{header-begun-for, header-left, header-now}
use Rattle.conc_run_open.proofs.Opened.{opened-same}
use Rattle.conc_run_open.proofs.TwoSteps.{now-wider, renewed-left, start-twice, unbegun}
use Rattle.conc_run_open.proofs.Written.{header-opens, written-after}
use Rattle.conc_run_open.proofs.starting.start.Goals as goal

pub begin-requires-clause-state : goal.begin-requires-clause-state
begin-requires-clause-state g c = let may = c.requires.may in unbegun may.0 c.args.digests.now c.args.journal.now may.1.may_start (sym c.takes_events.ensures ∙ c.if-not-takes_events.true)

pub returns-in_err-begin-clause-survives : goal.returns-in_err-begin-clause-survives
returns-in_err-begin-clause-survives g c = λ plan may. record {
  survives = header-left plan c.args.digests.now c.args.journal.now.events.items (g.D.Disk.state c.args.disk.now) (g.D.Disk.state c.begin.new.disk) (sym c.begin.ensures.list ∙ c.begin.ensures.empty) (rw c.both.ensures at c.begin.ensures.survives);
  now = header-now c.begin.result plan c.args.digests.now c.args.journal.now.events.items c.begin.new.self.events.items c.begin.new.self.stamps.items c.begin.new.self.state (g.D.Disk.state c.begin.new.disk)
      (rw c.both.ensures at c.begin.ensures.begun) (rw c.both.ensures at c.begin.ensures.failed) c.begin.ensures.list c.begin.ensures.empty c.begin.ensures.stamps c.begin.ensures.on;
}

pub returns-then-not-takes_events-clause-begun_for : goal.returns-then-not-takes_events-clause-begun_for
returns-then-not-takes_events-clause-begun_for g c = λ plan may.
    header-begun-for plan c.args.digests.now c.begin.new.self (rw c.both.ensures at c.in_ok-begin.ensures.begun) c.begin.ensures.empty c.begin.ensures.stamps

pub returns-then-not-takes_events-clause-survives : goal.returns-then-not-takes_events-clause-survives
returns-then-not-takes_events-clause-survives g c = λ plan may. record {
  survives = header-left plan c.args.digests.now c.args.journal.now.events.items (g.D.Disk.state c.args.disk.now) (g.D.Disk.state c.begin.new.disk) (sym c.begin.ensures.list ∙ c.begin.ensures.empty) (rw c.both.ensures at c.begin.ensures.survives);
  now = header-now c.begin.result plan c.args.digests.now c.args.journal.now.events.items c.begin.new.self.events.items c.begin.new.self.stamps.items c.begin.new.self.state (g.D.Disk.state c.begin.new.disk)
      (rw c.both.ensures at c.begin.ensures.begun) (rw c.both.ensures at c.begin.ensures.failed) c.begin.ensures.list c.begin.ensures.empty c.begin.ensures.stamps c.begin.ensures.on;
}

pub returns-in_err-renew-clause-survives : goal.returns-in_err-renew-clause-survives
returns-in_err-renew-clause-survives g c = λ plan may.
    let renewed = c.renew.ensures.survives plan may in
    record {
      survives = renewed-left plan c.args.digests.now c.args.journal.now.events.items (g.D.Disk.state c.args.disk.now) (g.D.Disk.state c.renew.new.disk) renewed.survives;
      now = now-wider plan c.args.digests.now c.args.journal.now.events.items (g.D.Disk.state c.renew.new.disk) renewed.now;
    }

pub resume-requires-clause-begun : goal.resume-requires-clause-begun
resume-requires-clause-begun g c = let may = c.requires.may in ap takes_events (c.in_ok-renew.ensures.begun_for may.0 may.1).state

pub resume-requires-clause-sound : goal.resume-requires-clause-sound
resume-requires-clause-sound g c = let may = c.requires.may in ap has_faulted (c.in_ok-renew.ensures.begun_for may.0 may.1).state

pub returns-clause-begun_for : goal.returns-clause-begun_for
returns-clause-begun_for g c = λ plan may. c.resume.ensures.begun_for plan c.args.digests.now (c.in_ok-renew.ensures.begun_for plan may)

pub returns-clause-survives : goal.returns-clause-survives
returns-clause-survives g c = λ plan may.
    let resumed = c.resume.ensures.survives plan c.args.digests.now (c.in_ok-renew.ensures.begun_for plan may) in
    record {
      survives = start-twice plan c.args.digests.now c.args.journal.now.events.items c.renew.new.journal.events.items (g.D.Disk.state c.args.disk.now) (g.D.Disk.state c.renew.new.disk) (g.D.Disk.state c.resume.new.disk) c.renew.ensures.list
          (c.renew.ensures.survives plan may).survives resumed.survives;
      now = subst (λ (l : List Event). EachImage (Survives plan c.args.digests.now l (opening l)) (g.D.Disk.state c.resume.new.disk)) c.renew.ensures.list resumed.now;
    }

-- ---- the resume

pub returns-clause-opened : goal.returns-clause-opened
returns-clause-opened g c = opened-same c.resume.result c.args.journal.now c.renew.new.journal c.resume.new.journal c.renew.ensures.list c.renew.ensures.room c.resume.ensures.opened

pub returns-then-not-takes_events-clause-version : goal.returns-then-not-takes_events-clause-version
returns-then-not-takes_events-clause-version g c = version-two c.begin.new.self (label_for c.args.digests.now) (rw c.both.ensures at c.in_ok-begin.ensures.begun) refl

pub returns-clause-version : goal.returns-clause-version
returns-clause-version g c = c.resume.ensures.version c.in_ok-renew.ensures.version

-- ---- the bytes

pub returns-then-not-takes_events-clause-written : goal.returns-then-not-takes_events-clause-written
returns-then-not-takes_events-clause-written g c = λ plan may.
    header-opens plan c.args.digests.now c.args.journal.now (g.D.Disk.state c.args.disk.now) (g.D.Disk.state c.begin.new.disk)
    (unbegun plan c.args.digests.now c.args.journal.now may.may_start (sym c.takes_events.ensures ∙ c.if-not-takes_events.true)) c.requires.on (g.met.D.Disk.seen_is_left c.args.disk.now)
    (rw c.both.ensures at c.in_ok-begin.ensures.written) c.begin.ensures.survives.exposes

pub returns-clause-written : goal.returns-clause-written
returns-clause-written g c = λ plan may.
    written-after c.resume.result plan c.args.digests.now c.args.journal.now.events.items c.renew.new.journal.events.items (g.D.Disk.state c.args.disk.now) (g.D.Disk.state c.renew.new.disk) (g.D.Disk.state c.resume.new.disk)
    c.renew.ensures.list (c.in_ok-renew.ensures.written plan may) (c.resume.ensures.written plan)
