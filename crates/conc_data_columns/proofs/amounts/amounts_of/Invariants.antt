use Rattle.conc_types.specs.Kept.{cell_of}
use Rattle.conc_types.specs.Numbers.{whole_number}
use Rattle.conc_data_columns.proofs.Known.{AreKnownBelow}
use Rattle.conc_data_columns.proofs.amounts.amounts_of.Given as goal

abbrev pub invariant-loop-row : goal.invariant-loop-row
invariant-loop-row l = AreKnownBelow (λ row. whole_number (cell_of l.table.rows row l.column)) l.row l.values.items
