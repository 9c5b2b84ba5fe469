use Rattle.std.proofs.Common.{◌≡◌, ◌≤◌, All, length, vec_len}
use Rattle.std.specs.Vec.{vec_capacity}
use Rattle.conc_types.specs.declared.plan.Plan.{Plan}
use Rattle.conc_view.specs.Told.{whole_of}
use Rattle.conc_run_watch.specs.Looks.{Watches}
use Rattle.conc_run_watch.specs.Watches.{IsWatch}
use Rattle.conc_run_watch.proofs.crew.Watchers.finish.Given as goal

abbrev pub invariant-loop-watcher : goal.invariant-loop-watcher
invariant-loop-watcher g l = record {
  count : vec_len l.kept ≡ length l.yielded;
  room : length l.fn.self.looks.items ≤ vec_capacity l.kept;
  watches : (plan : Plan) → All (Watches plan) l.fn.self.looks.items → All (λ v. IsWatch plan (whole_of l.initial.told) v.items) l.kept.items;
  told : whole_of l.told ≡ whole_of l.initial.told;
}
