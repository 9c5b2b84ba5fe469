use Rattle.std.proofs.Common.{rules, ◌≡◌, ◌≢◌, ◌∙◌, ℕ, List, map, Result, Ok, Err, Some, IfOk, IfSome, ap, subst}
use Rattle.std.proofs.lemmas.Result.{err_from_is_err_and}
use Rattle.std.specs.Result.{result_from_control_flow}
use Rattle.conc_run_state.specs.Handed.{Handed}
use Rattle.conc_run_state.specs.Stores.{handed_with}
use Rattle.conc_run_state.specs.Works.{list_in}
use Rattle.conc_run_state.specs.declared.error.HistoryFail.{HistoryFail}
use Rattle.conc_run_state.specs.declared.work.Work.{Work}
use Rattle.conc_run.specs.Whole.{HasEnded}
use Rattle.conc_view.specs.Publisher.{list_of}
use Rattle.conc_types.specs.declared.event.Event.{Event}
use Rattle.conc_run_watch.specs.Crews.{AreWatching}
use Rattle.conc_run_watch.specs.Lines.{AreWatchLines, watch_text}
use Rattle.conc_run_watch.proofs.Going.{still_watching}
use Rattle.conc_run_watched.proofs.Ending.{no-memory, watched-err, watched-ok}
use Rattle.conc_run_watched.proofs.watched.Scene.run_viewed.Goals as goal

pub returns-in_err-publisher-clause-ended : goal.returns-in_err-publisher-clause-ended
returns-in_err-publisher-clause-ended g c = λ before texts was.
    let p = err_from_is_err_and c.from_residual.result c.from_residual.ensures.1 in
    rw (p.1, p.2) (no-memory c.args.self.now.workers.now.threads c.args.watchers
    (handed_with g.D.Disk g.E.Disk c.args.examined.input before c.args.stores.now.journal.now texts c.args.stores.now.spool.now) c.args.examined was)

pub returns-in_default-clause-ended : goal.returns-in_default-clause-ended
returns-in_default-clause-ended g c = λ before texts was.
    no-memory c.args.self.now.workers.now.threads c.args.watchers
    (handed_with g.D.Disk g.E.Disk c.args.examined.input before c.args.stores.now.journal.now texts c.args.stores.now.spool.now) c.args.examined was

pub returns-in_err-answer-clause-ended : goal.returns-in_err-answer-clause-ended
returns-in_err-answer-clause-ended g c = λ before texts was.
    let p = err_from_is_err_and c.from_residual-in_err-answer.result c.from_residual-in_err-answer.ensures.1 in
    let ran = c.run_told_beside-answer in
    let threads = c.args.self.now.workers.now.threads in
    let h : Handed = handed_with g.D.Disk g.E.Disk c.args.examined.input before ran.new.stores.journal.now texts ran.new.stores.spool.now in
    let some : c.args.watchers ≢ 0 = search (rules) in
    let is : ran.result ≡ Err c.in_err-answer.field-0.0 = c.branch-answer.ensures ∙ ap (λ f. result_from_control_flow f) c.in_err-answer.is in
    rw (p.1, p.2) (watched-err threads c.args.watchers (list_of ran.new.teller) _ h _ some
    (subst (HasEnded threads _ h) is (ran.ensures.ended.ends before texts was)))

pub returns-clause-ended : goal.returns-clause-ended
returns-clause-ended g c = λ before texts was.
    let ran = c.run_told_beside-answer in
    let threads = c.args.self.now.workers.now.threads in
    let plan = c.plan.result.now in
    let is : ran.result ≡ Ok c.in_ok-answer.field-0 = c.branch-answer.ensures ∙ ap (λ f. result_from_control_flow f) c.in_ok-answer.is in
    let told = list_of ran.new.teller in
    let h : Handed = handed_with g.D.Disk g.E.Disk c.args.examined.input before ran.new.stores.journal.now texts ran.new.stores.spool.now in
    let begun : AreWatching plan c.args.watchers c.in-Ok.all = subst (λ (n : ℕ). AreWatching plan n c.in-Ok.all) c.in_ok-publisher.ensures.count
    (c.in-Ok.ensures plan (λ i d inside. (c.in_ok-publisher.ensures.seen i d inside).0)) in
    let watching = still_watching plan c.args.watchers c.in-Ok.all ran.new.watchers ran.ensures.watching begun in
    watched-ok threads c.args.watchers told _ plan h (record { work = c.in_ok-answer.field-0; kept = c.finish-kept.result })
    (c.plan.ensures ∙ was.is_examined.may_begin.ready.plan_is)
    (subst (HasEnded threads _ h) is (ran.ensures.ended.ends before texts was))
    (subst (λ (r : Result Work HistoryFail). IfOk r (λ work. IfSome (Some told) (λ list. list ≡ list_in work))) is ran.ensures.ended.told_all)
    (subst (λ (list : List Event). AreWatchLines plan list c.args.watchers (watch_text 1 (map (λ k. k.items) c.finish-kept.result.items))) c.close-told.ensures (c.finish-kept.ensures.lines plan c.args.watchers watching))
