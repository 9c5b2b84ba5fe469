use Rattle.std.proofs.Common.{◌≡◌, ◌<◌, ◌/◌, length, drop}
use Rattle.conc_event_queue.specs.Tournament.{IsTournamentBut}
use Rattle.conc_event_queue.proofs.queue.settle_above.Given as goal

abbrev pub invariant-loop-at : goal.invariant-loop-at
invariant-loop-at l = record {
  positive : 0 < l.at;
  within : l.at < length l.nodes;
  below : IsTournamentBut l.slots l.nodes (l.at / 2);
  same_slots : drop l.slots l.nodes ≡ drop l.slots l.fn.nodes;
}

abbrev pub decreases-loop-at : goal.decreases-loop-at
decreases-loop-at l = l.at
