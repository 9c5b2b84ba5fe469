use Rattle.std.proofs.Common.{subst, List}
use Rattle.std.proofs.lemmas.Result.{err_from_is_err_and}
use Rattle.conc_types.specs.declared.event.Event.{Event}
use Rattle.conc_disk.specs.Disk.{Reaches}
use Rattle.conc_run_state.specs.Stores.{handed_with}
use Rattle.conc_run_open.specs.Extents.{counted}
use Rattle.conc_run_open.proofs.Finding.{found-unreadable}
use Rattle.conc_run_open.proofs.Preparing.{prepared, prepared-cause, prepared-in_hand}
use Rattle.conc_run_open.proofs.examining.examine.Goals as goal

pub returns-in_err-texts-clause-cause : goal.returns-in_err-texts-clause-cause
returns-in_err-texts-clause-cause g c =
    let p = err_from_is_err_and c.from_residual-in_err-texts.result c.from_residual-in_err-texts.ensures.1 in
    let h = handed_with g.D.Disk g.E.Disk c.args.input.now c.args.stores.now.journal.now c.open_own.new.disk c.args.stores.now.spool.now c.open_texts.new.disk in
    let opened = c.in_ok-opened.opened in
    let found = c.in_ok-opened.ensures in
    rw (p.1, p.2) (found-unreadable h opened c.events.result.now _ (record { own = found.own; found = found.found }) c.events.ensures (c.in_err-texts.ensures.unreadable opened.broken))

pub returns-clause-examined : goal.returns-clause-examined
returns-clause-examined g c =
    let spool = g.E.Disk.state c.args.stores.now.spool.now in
    let h = handed_with g.D.Disk g.E.Disk c.args.input.now c.args.stores.now.journal.now c.open_own.new.disk c.args.stores.now.spool.now c.open_texts.new.disk in
    let found = c.in_ok-opened.ensures in
    let made = c.prepare.ensures in
    prepared h c.in_ok-opened.opened c.in_ok-texts.texts c.prepare.result (record { own = found.own; found = found.found })
    (subst (λ (l : List Event). Reaches spool (counted l)) c.events.ensures c.in_ok-texts.ensures.long)
    found.on found.state c.in_ok-texts.ensures.on made.ready made.list made.stamps made.state made.spool made.whole

pub returns-clause-cause : goal.returns-clause-cause
returns-clause-cause g c =
    let spool = g.E.Disk.state c.args.stores.now.spool.now in
    let h = handed_with g.D.Disk g.E.Disk c.args.input.now c.args.stores.now.journal.now c.open_own.new.disk c.args.stores.now.spool.now c.open_texts.new.disk in
    let found = c.in_ok-opened.ensures in
    prepared-cause h c.in_ok-opened.opened c.prepare.result (record { own = found.own; found = found.found })
    (subst (λ (l : List Event). Reaches spool (counted l)) c.events.ensures c.in_ok-texts.ensures.long) c.prepare.ensures.cannot_begin

pub returns-clause-in_hand : goal.returns-clause-in_hand
returns-clause-in_hand g c =
    prepared-in_hand g.D.Disk g.E.Disk c.args.input.now c.args.stores.now.journal.now c.open_own.new.disk c.args.stores.now.spool.now c.open_texts.new.disk c.prepare.result c.prepare.ensures.input (returns-clause-examined g c)
