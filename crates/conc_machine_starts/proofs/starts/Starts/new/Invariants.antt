use Rattle.std.proofs.Common.{◌≡◌, false, length, map, take}
use Rattle.std.specs.List.{range_with_len}
use Rattle.conc_types.specs.declared.event.PlaceId.{PlaceId}
use Rattle.conc_types.specs.declared.manager.Manager.{Manager}
use Rattle.conc_event_queue.specs.Least.{vacant}
use Rattle.conc_machine_starts.specs.Starts.{owner_of}
use Rattle.conc_machine_starts.proofs.starts.Starts.new.Given as goal

abbrev pub invariant-loop-manager : goal.invariant-loop-manager
invariant-loop-manager l =
    l.queues.items ≡ map (λ (manager : Manager). vacant (length l.plan.requests)) (take l.manager-index l.plan.setup.managers)

abbrev pub invariant-loop-index : goal.invariant-loop-index
invariant-loop-index l = record {
  owners : l.owners.items ≡ map (owner_of l.plan) (map (λ index. record { index = index }) (range_with_len 0 l.index));
  running : l.running.items ≡ map (λ (place : PlaceId). 0) (map (λ index. record { index = index }) (range_with_len 0 l.index));
  usable : l.usable.items ≡ map (λ (place : PlaceId). false) (map (λ index. record { index = index }) (range_with_len 0 l.index));
}
