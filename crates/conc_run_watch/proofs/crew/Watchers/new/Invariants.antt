use Rattle.std.proofs.Common.{◌≡◌, All, length}
use Rattle.conc_types.specs.declared.plan.Plan.{Plan}
use Rattle.conc_run_watch.specs.Looks.{IsWatcherOf, Watches}
use Rattle.conc_run_watch.proofs.crew.Watchers.new.Given as goal

abbrev pub invariant-loop-watcher : goal.invariant-loop-watcher
invariant-loop-watcher g l = record {
  count : length l.looks.items ≡ length l.yielded;
  watches : (plan : Plan) → All (IsWatcherOf plan) l.fn.watchers.items → All (Watches plan) l.looks.items;
}
