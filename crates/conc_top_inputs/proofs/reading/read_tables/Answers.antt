use Rattle.std.proofs.Common.{◌+◌, refl, sym, lit≤, subst, arith}
use Rattle.std.specs.Prelude.{take}
use Rattle.std.proofs.lemmas.List.{take_all}
use Rattle.conc_top_inputs.specs.FileFails.{FailsInTables}
use Rattle.conc_top_inputs.specs.Reading.{TakesTable}
use Rattle.conc_top_inputs.proofs.Acceptance.{handed}
use Rattle.conc_top_inputs.proofs.FileFailing.{all-read, AreRead, IsLater-refl, IsLater-trans, tables-more, tables-none, tables-file_fail}
use Rattle.conc_top_inputs.proofs.reading.read_tables.Goals as goal

pub loop-name-init : goal.loop-name-init
loop-name-init g c = record {
  number = refl;
  later = IsLater-refl (g.F.Shelf.state c.args.shelf.now);
  fit = lit≤ tt;
  read = tables-none (g.F.Shelf.state c.args.shelf.now).files c.new-tables.result.items c.args.digest c.new-tables.ensures.items;
}

pub returns-in_err-table-clause-err : goal.returns-in_err-table-clause-err
returns-in_err-table-clause-err g c =
    let state = g.F.Shelf.state in
    let told = c.in_err-table.ensures.err in
    let ends = rw told.was at c.judge_table-judged.ensures.err in
    handed (FailsInTables (state c.args.shelf.now) (state c.judge_table-judged.new.shelf) c.args.names.now) c.from_residual.result c.in_err-table.field-0.0 c.from_residual.ensures.1
    (tables-file_fail (state c.args.shelf.now) (state c.loop-name.shelf) (state c.judge_table-judged.new.shelf) c.args.names.now
    c.loop-name.name-index c.loop-name.number c.name-item.result c.loop-name.tables.items c.loop-name.invariant.read.0 c.loop-name.progress.bytes
    told.cause c.in_err-table.field-0.0
    c.loop-name-test.true c.name-item.is c.loop-name.invariant.number c.loop-name.invariant.later c.loop-name.invariant.read.1
    ends told.told)

pub loop-name-preserved : goal.loop-name-preserved
loop-name-preserved g c =
    let state = g.F.Shelf.state in
    let exposed = (state c.args.shelf.now).files in
    let taken = rw c.in_ok-table.ensures.ok at c.judge_table-judged.ensures.ok in
    let here = subst (λ files. TakesTable files c.name-item.result c.loop-name.progress c.in_ok-table.longer c.in_ok-table.table) c.loop-name.invariant.later.files taken in
    let more = tables-more exposed c.args.names.now c.loop-name.name-index c.name-item.result c.loop-name.tables.items c.in_ok-table.table
    c.args.digest c.loop-name.progress c.in_ok-table.longer c.loop-name-test.true c.name-item.is here c.loop-name.invariant.read in
    record {
      number = omega arith;
      later = IsLater-trans (state c.args.shelf.now) (state c.loop-name.shelf) (state c.judge_table-judged.new.shelf) c.loop-name.invariant.later c.judge_table-judged.ensures.later;
      fit = taken.fit;
      read = subst (λ l. AreRead exposed (take (c.loop-name.name-index + 1) c.args.names.now) l c.in_ok-table.longer.bytes c.args.digest c.in_ok-table.longer.digest)
          (sym c.in_ok-push.ensures.items) more;
    }

pub returns-clause-ok : goal.returns-clause-ok
returns-clause-ok g c =
    let read = c.loop-name.invariant.read in
    let all = take_all c.loop-name.name-index c.args.names.now (omega (arith, c.loop-name-test.false)) in
    all-read (g.F.Shelf.state c.args.shelf.now).files c.args.names.now (take c.loop-name.name-index c.args.names.now) c.loop-name.tables.items
    c.loop-name.progress.bytes c.args.digest c.loop-name.progress.digest all read
