use Rattle.std.proofs.Common.{◌-◌, ◌≤◌, vec_len}
use Rattle.conc_outside.proofs.system.read_up_to.Given as goal

abbrev pub invariant-loop-piece : goal.invariant-loop-piece
invariant-loop-piece g l = vec_len l.bytes ≤ l.most

abbrev pub decreases-loop-piece : goal.decreases-loop-piece
decreases-loop-piece g l = l.most - vec_len l.bytes
