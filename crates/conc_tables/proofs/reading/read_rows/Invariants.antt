use Rattle.std.proofs.Common.{◌≡◌, ◌≤◌, ◌++◌, length}
use Rattle.conc_types.specs.Pieces.{concat}
use Rattle.conc_tables.specs.Gathered.{AreWhole, cells_of}
use Rattle.conc_tables.specs.Rows.{rows_fault}
use Rattle.conc_tables.proofs.reading.read_rows.Given as goal

abbrev pub invariant-loop-row : goal.invariant-loop-row
invariant-loop-row l =
    (rows_fault l.width 2 l.fn.records ≡ rows_fault l.width l.line l.records)
    × (cells_of l.fn.cells ++ concat l.fn.records ≡ cells_of l.cells ++ concat l.records)
    × AreWhole l.cells
    × (l.line ≤ 1048578)

abbrev pub decreases-loop-row : goal.decreases-loop-row
decreases-loop-row l = length l.records
