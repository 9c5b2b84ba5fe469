use Rattle.std.proofs.Common.{take}
use Rattle.conc_reports.specs.Sieves.{AreSieves}
use Rattle.conc_reports.proofs.sieves.sieves_of.Given as goal

abbrev pub invariant-loop-condition : goal.invariant-loop-condition
invariant-loop-condition l = AreSieves l.table (take l.condition-index l.conditions) l.sieves.items
