use Rattle.std.proofs.Common.{◌≡◌, ◌≤◌, ◌<◌, length}
use Rattle.std.specs.List.{All}
use Rattle.conc_types.specs.Kept.{cell_of}
use Rattle.conc_data_columns.specs.declared.numbering.TheConstants.{MOST_NUMBERS, SLOTS}
use Rattle.conc_data_columns.proofs.Numberings.{IsNumberedBelow}
use Rattle.conc_data_columns.proofs.numbering.numbering_of.Given as goal

abbrev pub invariant-loop-row : goal.invariant-loop-row
invariant-loop-row l = record {
  slots : length l.slots.items ≡ SLOTS;
  few : length l.samples.items ≤ MOST_NUMBERS;
  within : All (λ row. row < length l.table.rows) l.samples.items;
  numbered : IsNumberedBelow (λ row. cell_of l.table.rows row l.column) l.row l.numbers.items l.samples.items;
}
