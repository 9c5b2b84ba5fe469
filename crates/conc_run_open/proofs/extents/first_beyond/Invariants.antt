use Rattle.std.proofs.Common.{◌≡◌, ◌+◌}
use Rattle.conc_run_open.proofs.Counting.{front}
use Rattle.conc_run_open.proofs.extents.first_beyond.Given as goal

-- so many bytes are left after the extents so far
abbrev pub invariant-loop-place : goal.invariant-loop-place
invariant-loop-place l = l.left + front l.place l.events ≡ l.len
