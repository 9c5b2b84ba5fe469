use Rattle.std.proofs.Common.{◌∙◌, ◌++◌, ap, arith}
use Rattle.conc_show_tables.specs.declared.facts.Facts.{Facts}
use Rattle.conc_show_tables.specs.Facts.{facts_of}
use Rattle.conc_show_tables.proofs.Joined.{lines_more}
use Rattle.conc_show_tables.proofs.rows.put_rows.Goals as goal

pub loop-row-preserved : goal.loop-row-preserved
loop-row-preserved g c =
    let line = g.F.RowFormat.line in
    lines_more (λ row. line row (facts_of c.args.chart.now row)) c.args.out.now.items c.loop-row.out.items c.put_line.new.out.items c.as_slice-row-items.result.now c.loop-row.row-index _ (omega arith) c.row-item.is c.loop-row.invariant
    (c.in_ok-put_line.ensures ∙ ap (λ (f : Facts). c.loop-row.out.items ++ line c.row-item.result f) c.facts_of.ensures)
