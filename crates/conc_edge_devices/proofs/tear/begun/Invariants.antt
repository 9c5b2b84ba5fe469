use Rattle.std.proofs.Common.{◌≡◌, ◌≤◌, ◌++◌, ◌-◌, length, take, drop}
use Rattle.conc_edge_devices.specs.Trace.{begun_in}
use Rattle.conc_edge_devices.proofs.tear.begun.Given as goal

abbrev pub invariant-loop-count : goal.invariant-loop-count
invariant-loop-count l = record {
  within : l.count ≤ length l.changes;
  rest : begun_in l.call l.changes ≡ take l.count l.changes ++ begun_in l.call (drop l.count l.changes);
}

abbrev pub decreases-loop-count : goal.decreases-loop-count
decreases-loop-count l = length l.changes - l.count
