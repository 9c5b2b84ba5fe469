use Rattle.std.proofs.Common.{◌≡◌, map, take}
use Rattle.std.specs.List.{enumerate_from}
use Rattle.conc_setup.specs.ThirdPass.{resolved_stage}
use Rattle.conc_setup.proofs.set.resolve_stages.Given as goal

abbrev pub invariant-loop-at : goal.invariant-loop-at
invariant-loop-at l = l.all.items
    ≡ map (resolved_stage l.items.programs.now l.stages) (take l.at (enumerate_from 0 l.stages))
