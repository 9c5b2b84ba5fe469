use Rattle.std.proofs.Common.{◌≡◌, ℕ, Result, Ok, Err, IfErr, None, sym, true, false}
use Rattle.std.proofs.lemmas.Result.{err_from_is_err_and}
use Rattle.conc_run_state.specs.Handed.{Handed}
use Rattle.conc_run_state.specs.Stores.{handed_with}
use Rattle.conc_run_state.specs.declared.error.HistoryFail.{HistoryFail}
use Rattle.conc_run.specs.Telling.{LacksTelling}
use Rattle.conc_run.specs.Whole.{IsCutShort, LacksToTell}
use Rattle.conc_run.proofs.Ended.{ended-input}
use Rattle.conc_run.proofs.Opened.{cut-untouched}
use Rattle.conc_run.proofs.Untold.{cut-wider}
use Rattle.conc_run.proofs.whole.run_on_threads.Goals as goal

apart : true ≡ false → ⊥
apart is = cc

-- a teller without a list finds memory always
cut-silent : {T : Type 0} (r : Result T HistoryFail) (threads : ℕ) (h : Handed) → IfErr r (IsCutShort threads (LacksTelling false None) h) → IfErr r (IsCutShort threads (LacksToTell 0) h)
cut-silent (Ok x) threads h cut = tt
cut-silent (Err e) threads h cut = cut-wider threads (LacksTelling false None) (LacksToTell 0) h e (λ found list begins lacks. absurd (apart (sym lacks.0))) cut

pub returns-in_err-examined-clause-cut_short : goal.returns-in_err-examined-clause-cut_short
returns-in_err-examined-clause-cut_short g c =
    let p = err_from_is_err_and c.from_residual.result c.from_residual.ensures.1 in
    let h : Handed = handed_with g.D.Disk g.E.Disk c.args.input.now c.args.stores.now.journal.now c.examine.new.stores.journal.now c.args.stores.now.spool.now c.examine.new.stores.spool.now in
    rw (p.1, p.2) (cut-untouched c.args.workers.now.threads (LacksToTell 0) h c.in_err-examined.field-0.0 c.in_err-examined.ensures.cause c.examine.ensures.untouched)

pub returns-clause-finished : goal.returns-clause-finished
returns-clause-finished g c =
    (ended-input g.D.Disk g.E.Disk c.args.workers.now.threads (LacksTelling false None) c.args.input.now c.in_ok-examined.examined c.args.stores.now.journal.now c.examine.new.stores.journal.now c.go_on.new.journal
    c.args.stores.now.spool.now c.examine.new.stores.spool.now c.go_on.new.spool c.go_on.result
    c.in_ok-examined.ensures.input c.in_ok-examined.ensures.examined c.examine.ensures.untouched c.go_on.ensures.ends).finished

pub returns-clause-cut_short : goal.returns-clause-cut_short
returns-clause-cut_short g c =
    let h : Handed = handed_with g.D.Disk g.E.Disk c.args.input.now c.args.stores.now.journal.now c.go_on.new.journal c.args.stores.now.spool.now c.go_on.new.spool in
    cut-silent c.go_on.result c.args.workers.now.threads h
    (ended-input g.D.Disk g.E.Disk c.args.workers.now.threads (LacksTelling false None) c.args.input.now c.in_ok-examined.examined c.args.stores.now.journal.now c.examine.new.stores.journal.now c.go_on.new.journal
    c.args.stores.now.spool.now c.examine.new.stores.spool.now c.go_on.new.spool c.go_on.result
    c.in_ok-examined.ensures.input c.in_ok-examined.ensures.examined c.examine.ensures.untouched c.go_on.ensures.ends).cut_short
