use Rattle.std.proofs.Common.{◌≡◌, ◌+◌, [], drop}
use Rattle.conc_show_model.specs.Judging.{fault_from}
use Rattle.conc_show_model.proofs.judging.judge.Given as goal

abbrev pub invariant-loop-i : goal.invariant-loop-i
invariant-loop-i l = fault_from l.rows [] 1 l.events ≡ fault_from l.rows l.going.items (l.i + 1) (drop l.i l.events)
