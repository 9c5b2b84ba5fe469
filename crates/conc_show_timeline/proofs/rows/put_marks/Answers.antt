use Rattle.std.proofs.Common.{◌∙◌, ◌++◌, List, ℕ, ap, arith}
use Rattle.conc_show_timeline.specs.Marks.{mark_of}
use Rattle.conc_show_timeline.specs.Rows.{mark_text}
use Rattle.conc_show_timeline.proofs.Columns.{column_end, column_more, from_start}
use Rattle.conc_show_timeline.proofs.rows.put_marks.Goals as goal

pub loop-column-init : goal.loop-column-init
loop-column-init c = ap (λ (xs : List ℕ). c.args.out.now.items ++ xs) (from_start (λ k. mark_text c.args.colours (mark_of c.args.steps.now k)))

pub loop-column-preserved : goal.loop-column-preserved
loop-column-preserved c =
    column_more (λ k. mark_text c.args.colours (mark_of c.args.steps.now k)) c.loop-column.out.items c.put_mark.new.out.items _ c.loop-column.column (omega arith) c.loop-column.invariant
    (c.in_ok-put_mark.ensures ∙ ap (λ (m : ℕ). c.loop-column.out.items ++ mark_text c.args.colours m) c.mark.ensures)

pub returns : goal.returns
returns c = column_end (λ k. mark_text c.args.colours (mark_of c.args.steps.now k)) c.loop-column.out.items _ c.loop-column.column (omega arith) c.loop-column.invariant
