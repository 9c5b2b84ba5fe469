use Rattle.std.proofs.Common.{◌≡◌, ◌++◌}
use Rattle.conc_repeat.proofs.DuesPushed.{dues_before}
use Rattle.conc_repeat.proofs.dues.push_dues.Given as goal

abbrev pub invariant-loop-k : goal.invariant-loop-k
invariant-loop-k l = l.dues.items ≡ l.fn.dues.items ++ dues_before l.place l.course l.k
