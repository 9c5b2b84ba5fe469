use Rattle.std.proofs.Common.{rules, true, ◌≡◌, ◌∙◌, sym, refl, arith, length}
use Rattle.std.specs.List.{list_all}
use Rattle.csv.specs.Records.{fields_of}
use Rattle.conc_types.specs.Words.{has_length}
use Rattle.conc_tables.proofs.Rows.{cells-whole, fault-doubled, fault-long, fault-none, fault-rows, rows-even, rows-few}
use Rattle.conc_tables.proofs.reading.read_table.Goals as goal

pub returns-then-bytes-gt-MOST_BYTES-clause-err : goal.returns-then-bytes-gt-MOST_BYTES-clause-err
returns-then-bytes-gt-MOST_BYTES-clause-err c = rw c.refused.ensures (refl, fault-long c.args.bytes.now c.if-bytes-gt-MOST_BYTES.true)

pub returns-then-not-branch-clause-err : goal.returns-then-not-branch-clause-err
returns-then-not-branch-clause-err c =
    let gone = c.in_ok-read.ensures.none c.if-not-branch.true in
    rw c.refused-then-not-branch.ensures (refl, fault-none c.args.bytes.now c.if-bytes-gt-MOST_BYTES.false (sym c.of_text-records.ensures.all ∙ gone.0))

pub returns-then-not-branch-2-clause-err : goal.returns-then-not-branch-2-clause-err
returns-then-not-branch-2-clause-err c =
    let records = sym c.of_text-records.ensures.all ∙ c.in_ok-read.ensures.some c.if-not-branch.false in
    let doubled = sym c.in_ok-are_distinct.ensures ∙ c.if-not-branch-2.true in
    rw c.refused-then-not-branch-2.ensures (refl, fault-doubled c.args.bytes.now _ _ c.if-bytes-gt-MOST_BYTES.false records doubled)

pub returns-in_err-read_rows-clause-err : goal.returns-in_err-read_rows-clause-err
returns-in_err-read_rows-clause-err c =
    let records = sym c.of_text-records.ensures.all ∙ c.in_ok-read.ensures.some c.if-not-branch.false in
    let distinct = sym c.in_ok-are_distinct.ensures ∙ c.if-not-branch-2.false in
    let faults = fault-rows c.args.bytes.now _ _ c.if-bytes-gt-MOST_BYTES.false records distinct in
    let failed = rw (c.len.ensures, c.in_ok-columns.ensures, ← faults) at c.in_err-read_rows.ensures.err in
    search rules

pub new-requires-clause-whole : goal.new-requires-clause-whole
new-requires-clause-whole c =
    let faultless = rw (c.len.ensures, c.in_ok-columns.ensures) at c.in_ok-read_rows.ensures.faultless in
    let cells = c.into_cells.ensures ∙ rw c.in_ok-cells.ensures.none at c.in_ok-read_rows.ensures.cells in
    let some = c.in_ok-read.ensures.fields c.if-not-branch.false in
    rw c.in_ok-columns.ensures (cells-whole _ _ _ some faultless cells).0

pub new-requires-clause-few : goal.new-requires-clause-few
new-requires-clause-few c =
    let faultless = rw (c.len.ensures, c.in_ok-columns.ensures) at c.in_ok-read_rows.ensures.faultless in
    let cells = c.into_cells.ensures ∙ rw c.in_ok-cells.ensures.none at c.in_ok-read_rows.ensures.cells in
    let some = c.in_ok-read.ensures.fields c.if-not-branch.false in
    rw c.in_ok-columns.ensures (cells-whole _ _ _ some faultless cells).1

pub returns-clause-ok : goal.returns-clause-ok
returns-clause-ok c =
    let records = sym c.of_text-records.ensures.all ∙ c.in_ok-read.ensures.some c.if-not-branch.false in
    let distinct = sym c.in_ok-are_distinct.ensures ∙ c.if-not-branch-2.false in
    let faultless = rw (c.len.ensures, c.in_ok-columns.ensures) at c.in_ok-read_rows.ensures.faultless in
    let cells = c.into_cells.ensures ∙ rw c.in_ok-cells.ensures.none at c.in_ok-read_rows.ensures.cells in
    let even : list_all (has_length (length c.in_ok-columns.columns)) c.read.new.self ≡ true = rw c.in_ok-columns.ensures (rows-even (length (fields_of c.read.new.into)) 2 c.read.new.self faultless) in
    let rows = c.new.ensures.rows c.read.new.self (sym cells) even in
    record {
      faultless = fault-rows c.args.bytes.now _ _ c.if-bytes-gt-MOST_BYTES.false records distinct ∙ faultless;
      records_are = rw (c.new.ensures.columns, c.in_ok-columns.ensures, rows) records;
    }

pub returns-clause-few : goal.returns-clause-few
returns-clause-few c =
    let faultless = rw (c.len.ensures, c.in_ok-columns.ensures) at c.in_ok-read_rows.ensures.faultless in
    let cells = c.into_cells.ensures ∙ rw c.in_ok-cells.ensures.none at c.in_ok-read_rows.ensures.cells in
    let even : list_all (has_length (length c.in_ok-columns.columns)) c.read.new.self ≡ true = rw c.in_ok-columns.ensures (rows-even (length (fields_of c.read.new.into)) 2 c.read.new.self faultless) in
    let rows = c.new.ensures.rows c.read.new.self (sym cells) even in
    let few = rows-few (length (fields_of c.read.new.into)) 2 c.read.new.self (omega arith) faultless in
    rw rows (omega (arith, few))
