use Rattle.std.proofs.Common.{length, arith}
use Rattle.conc_types.proofs.Pieces.{concat-rows, even-rows, length-rows, rows-concat}
use Rattle.conc_types.proofs.table.Table.new.Goals as goal

pub invariant_of-result : goal.invariant_of-result
invariant_of-result c =
    (c.requires.distinct, (even-rows (length c.args.columns) c.args.cells c.requires.whole, (omega (arith, length-rows (length c.args.columns) c.args.cells), tt)))

pub returns-clause-rows : goal.returns-clause-rows
returns-clause-rows c rows joined even = rows-concat (length c.args.columns) c.args.cells rows c.requires.some joined even

pub returns-clause-cells : goal.returns-clause-cells
returns-clause-cells c = concat-rows (length c.args.columns) c.args.cells c.requires.whole
