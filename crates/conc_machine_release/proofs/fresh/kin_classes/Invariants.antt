use Rattle.std.proofs.Common.{◌≡◌}
use Rattle.std.specs.List.{filter, range_with_len}
use Rattle.conc_event_classes.specs.Classes.{excludes_kin_at}
use Rattle.conc_machine_release.proofs.fresh.kin_classes.Given as goal

abbrev pub invariant-loop-class : goal.invariant-loop-class
invariant-loop-class l = l.kin.items
    ≡ filter (excludes_kin_at l.classes) (range_with_len 0 l.class)
