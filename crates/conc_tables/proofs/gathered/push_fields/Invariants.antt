use Rattle.std.proofs.Common.{◌≡◌, ◌++◌, take}
use Rattle.csv.specs.Records.{fields_of}
use Rattle.conc_types.specs.Pieces.{concat}
use Rattle.conc_tables.proofs.gathered.push_fields.Given as goal

abbrev pub invariant-loop-field : goal.invariant-loop-field
invariant-loop-field l = (l.field-iterator.row.now ≡ l.row)
    × (l.bytes.items ≡ l.initial.bytes.items ++ concat (take l.field-iterator.at (fields_of l.row)))
