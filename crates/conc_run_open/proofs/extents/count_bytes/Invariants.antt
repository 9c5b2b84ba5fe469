use Rattle.std.proofs.Common.{◌≡◌, min}
use Rattle.conc_run_open.proofs.Counting.{front}
use Rattle.conc_run_open.proofs.extents.count_bytes.Given as goal

-- the bytes of the extents so far
abbrev pub invariant-loop-event : goal.invariant-loop-event
invariant-loop-event l = l.bytes ≡ min (front l.event-index l.events) 18446744073709551615
