use Rattle.std.proofs.Common.{◌≡◌, ◌≤◌, drop, length}
use Rattle.conc_data_fields.specs.Arrays.{worst}
use Rattle.conc_data_fields.proofs.lines.worst.Given as goal

abbrev pub invariant-loop-place : goal.invariant-loop-place
invariant-loop-place g l = record {
  within : l.place ≤ length l.all;
  least : l.least ≡ worst (drop l.place l.all);
}

abbrev pub decreases-loop-place : goal.decreases-loop-place
decreases-loop-place g l = l.place
