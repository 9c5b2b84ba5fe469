use Rattle.std.proofs.Common.{◌≡◌, ◌++◌, map, take}
use Rattle.std.specs.List.{concat}
use Rattle.conc_history.specs.Table.{line_at}
use Rattle.conc_history.proofs.table.put_table.Given as goal

abbrev pub invariant-loop-r : goal.invariant-loop-r
invariant-loop-r l =
    l.out.items ≡ l.fn.out.items ++ concat (map (line_at l.plan l.state) (take l.r-index l.r-items))
