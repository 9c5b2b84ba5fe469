use Rattle.std.proofs.Common.{◌≡◌}
use Rattle.conc_event_queue.specs.Least.{vacant}
use Rattle.conc_event_queue.proofs.queue.Queue.new.Given as goal

abbrev pub invariant-loop : goal.invariant-loop
invariant-loop l = l.nodes.items ≡ vacant l.counter
