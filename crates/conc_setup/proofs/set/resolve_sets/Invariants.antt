use Rattle.std.proofs.Common.{◌≡◌, map, take}
use Rattle.conc_setup.specs.ThirdPass.{resolved_set}
use Rattle.conc_setup.proofs.set.resolve_sets.Given as goal

abbrev pub invariant-loop-set : goal.invariant-loop-set
invariant-loop-set l = l.all.items
    ≡ map (resolved_set l.items.programs.now) (take l.set-index l.sets)
