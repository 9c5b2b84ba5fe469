use Rattle.std.proofs.Common.{◌≡◌, take}
use Rattle.csv.specs.Records.{fields_of}
use Rattle.conc_tables.proofs.columns.columns_of.Given as goal

abbrev pub invariant-loop-name : goal.invariant-loop-name
invariant-loop-name l = (l.name-iterator.row.now ≡ l.header)
    × (l.columns.items ≡ take l.name-iterator.at (fields_of l.header))
