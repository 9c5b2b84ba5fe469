use Rattle.std.proofs.Common.{◌≡◌, true, take}
use Rattle.csv.specs.Records.{fields_of}
use Rattle.std.specs.Str.{bytes_eq}
use Rattle.conc_types.specs.Words.{are_distinct}
use Rattle.conc_tables.proofs.Names.{Knows}
use Rattle.conc_tables.proofs.columns.are_distinct.Given as goal

abbrev pub invariant-loop-field : goal.invariant-loop-field
invariant-loop-field l = record {
  same : l.field-iterator.row.now ≡ l.header;
  distinct : are_distinct bytes_eq (take l.field-iterator.at (fields_of l.header)) ≡ true;
  knows : Knows l.seen.keys (take l.field-iterator.at (fields_of l.header));
}
