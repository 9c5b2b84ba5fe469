use Rattle.std.proofs.Common.{◌≡◌, ℕ, ◌≤◌, List, ◌++◌, length}
use Rattle.conc_outside.specs.Taken.{Took}
use Rattle.conc_outside.proofs.sink.write_all.Given as goal

abbrev pub invariant-loop-rest : goal.invariant-loop-rest
invariant-loop-rest g l = record {
  faults : (g.O.Sink.state l.fn.out).faults ≤ (g.O.Sink.state l.out).faults;
  written : (written : List ℕ) × (written ++ l.rest ≡ l.fn.bytes) × Took (g.O.Sink.state l.fn.out).taken (g.O.Sink.state l.out).taken written;
}

abbrev pub decreases-loop-rest : goal.decreases-loop-rest
decreases-loop-rest g l = length l.rest
