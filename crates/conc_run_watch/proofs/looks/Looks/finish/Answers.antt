use Rattle.std.proofs.Common.{List, subst, sym}
use Rattle.conc_view.specs.Told.{whole_of}
use Rattle.conc_view.specs.Watcher.{seen_by, watched_plan}
use Rattle.conc_view.specs.declared.watcher.Snapshot.{Snapshot}
use Rattle.conc_run_watch.specs.Watches.{IsWatch}
use Rattle.conc_run_watch.proofs.Kept.{kept_whole}
use Rattle.conc_run_watch.proofs.looks.Looks.finish.Goals as goal

pub returns-clause-watch : goal.returns-clause-watch
returns-clause-watch g c =
    let looks = c.args.self in let told = whole_of c.args.told.now in let made = c.look_at_whole-snapshot.ensures in
    subst (λ (kept : List Snapshot). IsWatch (watched_plan looks.watcher) told kept) (sym {A = List Snapshot} c.keep.ensures.kept)
    (kept_whole (watched_plan looks.watcher) (seen_by looks.watcher) told looks.kept.items c.look_at_whole-snapshot.result looks.looks looks.few made.begins made.length made.counts)

pub returns-clause-kept : goal.returns-clause-kept
returns-clause-kept g c =
    let made = c.look_at_whole-snapshot.ensures in
    record { snapshot = c.look_at_whole-snapshot.result; long = made.length; counts = made.counts; kept = c.keep.ensures.kept }
