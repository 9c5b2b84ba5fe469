use Rattle.std.proofs.Common.{◌≡◌, ◌<◌, All, length}
use Rattle.conc_repeat.proofs.DuesPushed.{dues_to}
use Rattle.conc_repeat.proofs.dues.all_dues.Given as goal

abbrev pub invariant-loop-place : goal.invariant-loop-place
invariant-loop-place l = (l.dues.items ≡ dues_to l.all l.place) × All (λ due. due.series < length l.all) l.dues.items
