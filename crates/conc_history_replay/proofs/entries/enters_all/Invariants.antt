use Rattle.std.proofs.Common.{◌≡◌, ℕ, ◌≤◌, ◌<◌, true, Some}
use Rattle.std.specs.Prelude.{◌==◌, slice_get}
use Rattle.conc_types.specs.declared.plan.Req.{Req}
use Rattle.conc_history_replay.proofs.entries.enters_all.Given as goal

-- the command enters those so far
abbrev pub invariant-loop-i : goal.invariant-loop-i
invariant-loop-i l = (k : ℕ) (r : Req) → slice_get l.plan.requests k ≡ Some r → l.fn.span.from ≤ k → k < l.i → (l.number == r.command) ≡ true
