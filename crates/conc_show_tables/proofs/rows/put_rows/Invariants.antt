use Rattle.std.proofs.Common.{◌≡◌, ◌++◌, take}
use Rattle.std.specs.Prelude.{flat_map}
use Rattle.conc_show_tables.specs.Facts.{facts_of}
use Rattle.conc_show_tables.proofs.rows.put_rows.Given as goal

abbrev pub invariant-loop-row : goal.invariant-loop-row
invariant-loop-row g l =
    l.out.items ≡ l.initial.out.items ++ flat_map (λ row. g.F.RowFormat.line row (facts_of l.chart row)) (take l.row-index l.row-items)
