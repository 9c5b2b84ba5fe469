use Rattle.std.proofs.Common.{reverse}
use mathlib.Core.Logic.{∥∥₁_elim}
use Rattle.conc_view.specs.Counts.{status_after}
use Rattle.conc_view.specs.Watcher.{seen_by, watched_plan}
use Rattle.conc_view.proofs.Replayed.{same_status}
use Rattle.conc_view.proofs.watcher.Watcher.status.Goals as goal

pub returns-clause-status : goal.returns-clause-status
returns-clause-status g c =
    let watcher = c.catch_up.new.self in
    ∥∥₁_elim watcher.stands (same_status c.status.result (status_after (watched_plan watcher) (seen_by watcher) c.args.request)) (c.status.ensures (reverse (seen_by watcher)))
