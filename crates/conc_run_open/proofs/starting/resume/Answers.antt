use Rattle.std.proofs.Common.{◌<◌, length, sym, ap, ◌∙◌, Err}
use Rattle.conc_run_open.proofs.Renewing.{two-still}
use Rattle.conc_run_open.proofs.Resuming.{not-empty, resume-begun-for, resume-failed, resume-left, resume-there}
use Rattle.conc_run_open.proofs.Written.{no-resume-written, resume-written}
use Rattle.conc_run_open.proofs.starting.resume.Goals as goal

pub returns-in-Ok-clause-begun_for : goal.returns-in-Ok-clause-begun_for
returns-in-Ok-clause-begun_for g c = λ plan digests begun.
    let journal = c.args.journal.now in
    let some : 0 < length journal.events.items = not-empty journal.events.items c.events.result.now c.events.ensures (sym c.is_empty.ensures ∙ c.if-is_empty.false) in
    resume-begun-for plan digests journal c.append.new.self begun some c.in-Ok.ensures.state c.in-Ok.ensures.appended c.in-Ok.ensures.stamped

pub returns-in-Ok-clause-survives : goal.returns-in-Ok-clause-survives
returns-in-Ok-clause-survives g c = λ plan digests begun.
    let journal = c.args.journal.now in
    let some : 0 < length journal.events.items = not-empty journal.events.items c.events.result.now c.events.ensures (sym c.is_empty.ensures ∙ c.if-is_empty.false) in
    record {
      survives = resume-left plan digests journal (g.D.Disk.state c.args.disk.now) (g.D.Disk.state c.append.new.disk) begun some c.append.ensures.survives;
      now = resume-there plan digests journal c.append.new.self (g.D.Disk.state c.append.new.disk) begun some c.in-Ok.ensures.state c.in-Ok.ensures.appended c.in-Ok.ensures.stamped c.append.ensures.on;
    }

pub returns-in-Err-clause-survives : goal.returns-in-Err-clause-survives
returns-in-Err-clause-survives g c = λ plan digests begun.
    let journal = c.args.journal.now in
    let some : 0 < length journal.events.items = not-empty journal.events.items c.events.result.now c.events.ensures (sym c.is_empty.ensures ∙ c.if-is_empty.false) in
    record {
      survives = resume-left plan digests journal (g.D.Disk.state c.args.disk.now) (g.D.Disk.state c.append.new.disk) begun some c.append.ensures.survives;
      now = resume-failed plan digests journal c.append.new.self c.in-Err.field-0 (g.D.Disk.state c.append.new.disk) begun some c.in-Err.ensures.list c.in-Err.ensures.stamps
          (λ is. c.append.ensures.faulted (c.in-Err.is ∙ ap Err is)) (λ is. c.append.ensures.failed.0 (c.in-Err.is ∙ ap Err is)) c.append.ensures.on;
    }

pub returns-in-Ok-clause-version : goal.returns-in-Ok-clause-version
returns-in-Ok-clause-version g c = two-still c.args.journal.now c.append.new.self c.in-Ok.ensures.state

pub returns-in-Ok-clause-written : goal.returns-in-Ok-clause-written
returns-in-Ok-clause-written g c = λ plan.
    let journal = c.args.journal.now in
    let some : 0 < length journal.events.items = not-empty journal.events.items c.events.result.now c.events.ensures (sym c.is_empty.ensures ∙ c.if-is_empty.false) in
    resume-written plan journal.events.items (g.D.Disk.state c.args.disk.now) (g.D.Disk.state c.append.new.disk) some c.in-Ok.ensures.written c.append.ensures.survives.exposes
