use Rattle.std.proofs.Common.{sym, ◌∙◌, ap, subst, List}
use Rattle.std.proofs.lemmas.Result.{err_from_is_err_and}
use Rattle.conc_types.specs.declared.event.Event.{Event}
use Rattle.conc_disk.specs.Disk.{Reaches}
use Rattle.conc_base_law.specs.Law.{LawfulSoFar}
use Rattle.conc_run_state.specs.Disks.{disks}
use Rattle.conc_run_open.specs.Extents.{counted}
use Rattle.conc_run_open.specs.Texts.{HasEnd, HasNoEnd}
use Rattle.conc_run_open.proofs.Failing.{unread}
use Rattle.conc_run_open.proofs.Stored.{read-within, refused-unreadable, rose-later, text-before, unopened-read, unreadable-read, untouched-twice, whole-read}
use Rattle.conc_run_open.proofs.text.read_text.Goals as goal

pub returns-in_err-opened-clause-cause : goal.returns-in_err-opened-clause-cause
returns-in_err-opened-clause-cause g c =
    let spool = g.E.Disk.state c.args.stores.now.spool.now in
    let p = err_from_is_err_and c.from_residual.result c.from_residual.ensures.1 in
    rw (p.1, p.2) (unopened-read c.args.plan.now c.args.digests.now (disks (g.D.Disk.state c.args.stores.now.journal.now) (g.D.Disk.state c.open_own.new.disk) spool spool) _ c.in_err-opened.ensures.cause)

pub returns-in_err-texts-clause-cause : goal.returns-in_err-texts-clause-cause
returns-in_err-texts-clause-cause g c =
    let p = err_from_is_err_and c.from_residual-in_err-texts.result c.from_residual-in_err-texts.ensures.1 in
    let d = disks (g.D.Disk.state c.args.stores.now.journal.now) (g.D.Disk.state c.open_own.new.disk) (g.E.Disk.state c.args.stores.now.spool.now) (g.E.Disk.state c.open_texts.new.disk) in
    let opened = c.in_ok-opened.opened in
    let found = c.in_ok-opened.ensures in
    rw (p.1, p.2) (unreadable-read c.args.plan.now c.args.digests.now d opened c.events.result.now _ found.own found.found c.events.ensures (c.in_err-texts.ensures.unreadable opened.broken))

pub returns-in_err-resume_whole-clause-cause : goal.returns-in_err-resume_whole-clause-cause
returns-in_err-resume_whole-clause-cause g c =
    let p = err_from_is_err_and c.from_residual-in_err-resume_whole.result c.from_residual-in_err-resume_whole.ensures.1 in
    let plan = c.args.plan.now in
    let old = g.E.Disk.state c.args.stores.now.spool.now in
    let mid = g.E.Disk.state c.open_texts.new.disk in
    let d = disks (g.D.Disk.state c.args.stores.now.journal.now) (g.D.Disk.state c.open_own.new.disk) old mid in
    let opened = c.in_ok-opened.opened in
    let found = c.in_ok-opened.ensures in
    let events = c.events-2.result.now in
    let long = subst (λ (l : List Event). Reaches old (counted l)) (c.events.ensures ∙ sym c.events-2.ensures) c.in_ok-texts.ensures.long in
    rw (p.1, p.2)
    (unreadable-read plan c.args.digests.now d opened events _ found.own found.found c.events-2.ensures (refused-unreadable plan events opened.broken old mid _ long c.in_err-resume_whole.ensures.refused))

pub returns-in_default-clause-cause : goal.returns-in_default-clause-cause
returns-in_default-clause-cause g c =
    let plan = c.args.plan.now in
    let journal = g.D.Disk.state c.args.stores.now.journal.now in
    let spool = g.E.Disk.state c.args.stores.now.spool.now in
    let opened = c.in_ok-opened.opened in
    let found = c.in_ok-opened.ensures in
    let good = c.in_ok-resume_whole.ensures in
    let so_far = subst (LawfulSoFar plan) c.events-2.ensures good.lawful_so_far in
    let long = subst (λ (l : List Event). Reaches spool (counted l)) c.events.ensures c.in_ok-texts.ensures.long in
    record {
      events = opened.journal.events.items;
      whole = whole-read plan c.args.digests.now journal spool opened found.own found.found long so_far good.whole;
      none = subst (λ (l : List Event). HasNoEnd l c.args.id) c.events-3.ensures c.in_default.ensures;
    }

pub read-requires-clause-within : goal.read-requires-clause-within
read-requires-clause-within g c =
    let plan = c.args.plan.now in
    let events = c.in_ok-opened.opened.journal.events.items in
    let so_far = subst (LawfulSoFar plan) c.events-2.ensures c.in_ok-resume_whole.ensures.lawful_so_far in
    read-within plan events c.args.id c.in-Some.extent c.in_ok-texts.texts.used so_far (c.in_ok-texts.ensures.used ∙ ap counted c.events.ensures)
    (subst (λ (l : List Event). HasEnd l c.args.id c.in-Some.extent) c.events-3.ensures c.in-Some.ensures)

pub returns-clause-text : goal.returns-clause-text
returns-clause-text g c =
    let plan = c.args.plan.now in
    let journal = g.D.Disk.state c.args.stores.now.journal.now in
    let spool = g.E.Disk.state c.args.stores.now.spool.now in
    let opened = c.in_ok-opened.opened in
    let found = c.in_ok-opened.ensures in
    let good = c.in_ok-resume_whole.ensures in
    let so_far = subst (LawfulSoFar plan) c.events-2.ensures good.lawful_so_far in
    let long = subst (λ (l : List Event). Reaches spool (counted l)) c.events.ensures c.in_ok-texts.ensures.long in
    record {
      events = opened.journal.events.items;
      whole = whole-read plan c.args.digests.now journal spool opened found.own found.found long so_far good.whole;
      extent = c.in-Some.extent;
      ended = subst (λ (l : List Event). HasEnd l c.args.id c.in-Some.extent) c.events-3.ensures c.in-Some.ensures;
      long = sym c.in_ok-read.field-0.ok.0 ∙ c.in_ok-read.ensures.length;
      text = text-before spool (g.E.Disk.state c.open_texts.new.disk) c.in-Some.extent.offset c.in_ok-read.field-0.items c.open_texts.ensures.stays c.in_ok-read.ensures.text;
    }

pub returns-in_err-read-clause-cause : goal.returns-in_err-read-clause-cause
returns-in_err-read-clause-cause g c =
    let p = err_from_is_err_and c.from_residual-in_err-read.result c.from_residual-in_err-read.ensures.1 in
    let old = g.E.Disk.state c.args.stores.now.spool.now in
    let mid = g.E.Disk.state c.open_texts.new.disk in
    let new = g.E.Disk.state c.read.new.disk in
    let d = disks (g.D.Disk.state c.args.stores.now.journal.now) (g.D.Disk.state c.open_own.new.disk) old new in
    rw (p.1, p.2) (unread c.args.plan.now c.args.digests.now d _ c.in_ok-opened.ensures.own (λ is. rose-later old.faults mid.faults new.faults c.open_texts.ensures.survives.faults (c.in_err-read.ensures.fault is)))

pub returns-in_err-read-clause-untouched : goal.returns-in_err-read-clause-untouched
returns-in_err-read-clause-untouched g c =
    untouched-twice (g.D.Disk.state c.args.stores.now.journal.now) (g.D.Disk.state c.open_own.new.disk) (g.E.Disk.state c.args.stores.now.spool.now) (g.E.Disk.state c.open_texts.new.disk) (g.E.Disk.state c.read.new.disk)
    c.open_own.ensures.stays c.open_own.ensures.survives c.open_texts.ensures.stays c.open_texts.ensures.survives c.read.ensures.same c.read.ensures.survives

pub returns-clause-untouched : goal.returns-clause-untouched
returns-clause-untouched g c =
    untouched-twice (g.D.Disk.state c.args.stores.now.journal.now) (g.D.Disk.state c.open_own.new.disk) (g.E.Disk.state c.args.stores.now.spool.now) (g.E.Disk.state c.open_texts.new.disk) (g.E.Disk.state c.read.new.disk)
    c.open_own.ensures.stays c.open_own.ensures.survives c.open_texts.ensures.stays c.open_texts.ensures.survives c.read.ensures.same c.read.ensures.survives
