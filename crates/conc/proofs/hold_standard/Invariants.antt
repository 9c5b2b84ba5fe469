use Rattle.std.proofs.Common.{◌≡◌, vec_len}
use Rattle.conc.proofs.hold_standard.Given as goal

abbrev pub invariant-loop : goal.invariant-loop
invariant-loop l = vec_len l.held ≡ l.counter
