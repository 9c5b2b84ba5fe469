use Rattle.std.proofs.lemmas.Result.{err_from_is_err_and}
use Rattle.conc_run_state.specs.Handed.{Handed}
use Rattle.conc_run_state.specs.Stores.{handed_with}
use Rattle.conc_run_state.specs.declared.error.HistoryFail.TheVariants as history_fail
use Rattle.conc_run.specs.Whole.{LacksToTell}
use Rattle.conc_run.proofs.Opened.{cut-untouched}
use Rattle.conc_run_watched.proofs.Ending.{watched-input}
use Rattle.conc_run_watched.proofs.watched.run_watched.Goals as goal

pub returns-in_err-examined-clause-cut_short : goal.returns-in_err-examined-clause-cut_short
returns-in_err-examined-clause-cut_short g c =
    let p = err_from_is_err_and c.from_residual.result c.from_residual.ensures.1 in
    let h : Handed = handed_with g.D.Disk g.E.Disk c.args.input.now c.args.stores.now.journal.now c.examine.new.stores.journal.now c.args.stores.now.spool.now c.examine.new.stores.spool.now in
    rw (p.1, p.2) (cut-untouched c.args.workers.now.threads (LacksToTell c.args.watchers) h c.in_err-examined.field-0.0 c.in_err-examined.ensures.cause c.examine.ensures.untouched)

pub returns-in_err-opened-clause-cut_short : goal.returns-in_err-opened-clause-cut_short
returns-in_err-opened-clause-cut_short g c =
    let p = err_from_is_err_and c.from_residual-in_err-opened.result c.from_residual-in_err-opened.ensures.1 in
    let h : Handed = handed_with g.D.Disk g.E.Disk c.args.input.now c.args.stores.now.journal.now c.examine.new.stores.journal.now c.args.stores.now.spool.now c.examine.new.stores.spool.now in
    rw (p.1, p.2) (cut-untouched c.args.workers.now.threads (LacksToTell c.args.watchers) h history_fail.NoMemory tt c.examine.ensures.untouched)

pub returns-clause-finished : goal.returns-clause-finished
returns-clause-finished g c =
    (watched-input g.D.Disk g.E.Disk c.args.workers.now.threads c.args.watchers c.args.input.now c.in_ok-examined.examined c.args.stores.now.journal.now c.examine.new.stores.journal.now c.run_viewed.new.stores.journal.now
    c.args.stores.now.spool.now c.examine.new.stores.spool.now c.run_viewed.new.stores.spool.now c.run_viewed.result
    c.in_ok-examined.ensures.input c.in_ok-examined.ensures.examined c.examine.ensures.untouched c.run_viewed.ensures.ended).finished

pub returns-clause-watched : goal.returns-clause-watched
returns-clause-watched g c =
    (watched-input g.D.Disk g.E.Disk c.args.workers.now.threads c.args.watchers c.args.input.now c.in_ok-examined.examined c.args.stores.now.journal.now c.examine.new.stores.journal.now c.run_viewed.new.stores.journal.now
    c.args.stores.now.spool.now c.examine.new.stores.spool.now c.run_viewed.new.stores.spool.now c.run_viewed.result
    c.in_ok-examined.ensures.input c.in_ok-examined.ensures.examined c.examine.ensures.untouched c.run_viewed.ensures.ended).watched

pub returns-clause-cut_short : goal.returns-clause-cut_short
returns-clause-cut_short g c =
    (watched-input g.D.Disk g.E.Disk c.args.workers.now.threads c.args.watchers c.args.input.now c.in_ok-examined.examined c.args.stores.now.journal.now c.examine.new.stores.journal.now c.run_viewed.new.stores.journal.now
    c.args.stores.now.spool.now c.examine.new.stores.spool.now c.run_viewed.new.stores.spool.now c.run_viewed.result
    c.in_ok-examined.ensures.input c.in_ok-examined.ensures.examined c.examine.ensures.untouched c.run_viewed.ensures.ended).cut_short
