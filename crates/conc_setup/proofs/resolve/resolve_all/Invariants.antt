use Rattle.std.proofs.Common.{◌≡◌, map, take}
use Rattle.conc_setup.proofs.resolve.resolve_all.Given as goal

abbrev pub invariant-loop-value : goal.invariant-loop-value
invariant-loop-value g l =
    l.all.items ≡ map (g.T.Resolve.resolved l.items.programs.now l.items.sets.now) (take l.value-index l.values)
