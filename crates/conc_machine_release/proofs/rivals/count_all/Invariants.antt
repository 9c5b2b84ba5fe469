use Rattle.std.proofs.Common.{◌≡◌, drop, length}
use Rattle.conc_machine_release.specs.Rivals.{counted_all}
use Rattle.conc_machine_release.proofs.rivals.count_all.Given as goal

abbrev pub invariant-loop-class : goal.invariant-loop-class
invariant-loop-class l =
    (length l.counts ≡ length l.fn.counts)
    × (counted_all l.more (drop l.class-index l.classes) l.counts ≡ counted_all l.more l.classes l.fn.counts)
