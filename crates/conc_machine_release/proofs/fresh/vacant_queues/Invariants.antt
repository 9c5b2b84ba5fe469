use Rattle.std.proofs.Common.{◌≡◌, map}
use Rattle.std.specs.Prelude.{slice_index}
use Rattle.std.specs.List.{range_with_len}
use Rattle.conc_event_queue.specs.Least.{vacant}
use Rattle.conc_machine_release.proofs.fresh.vacant_queues.Given as goal

abbrev pub invariant-loop-class : goal.invariant-loop-class
invariant-loop-class l = l.queues.items
    ≡ map (λ c. vacant (slice_index l.classes.sizes c)) (range_with_len 0 l.class)
