use Rattle.std.proofs.Common.{◌≡◌, ◌∙◌, List, ap, subst}
use mathlib.Core.List.{IsPrefix}
use Rattle.conc_types.specs.declared.event.Event.{Event}
use Rattle.conc_types.specs.declared.plan.Plan.{Plan}
use Rattle.conc_view.specs.Counts.{counts_of}
use Rattle.conc_view.specs.Told.{whole_of}
use Rattle.conc_view.specs.Watcher.{seen_by, watched_plan}
use Rattle.conc_run_watch.proofs.Kept.{same_whole}
use Rattle.conc_run_watch.proofs.looks.look_at_whole.Goals as goal

pub returns-clause-counts : goal.returns-clause-counts
returns-clause-counts g c =
    let whole = whole_of c.args.told.now in let seen = seen_by c.look-snapshot.new.self in let plan = watched_plan c.args.watcher.now in
    let on : IsPrefix whole seen = subst (λ (l : List Event). IsPrefix l seen) c.learn.ensures.whole c.look-snapshot.ensures.begins in
    let back : IsPrefix seen whole = subst (λ (l : List Event). IsPrefix seen l) c.learn.ensures.told c.learn-2.ensures.begins in
    let same : watched_plan c.look-snapshot.new.self ≡ plan = c.look-snapshot.ensures.plan ∙ c.learn.ensures.plan in
    c.look-snapshot.ensures.counts ∙ (ap (λ (p : Plan). counts_of p seen) same ∙ ap (counts_of plan) (same_whole whole seen on back))
