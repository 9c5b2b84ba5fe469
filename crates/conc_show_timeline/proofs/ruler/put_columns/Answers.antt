use Rattle.std.proofs.Common.{◌∙◌, [], ◌∷◌, ◌++◌, List, ℕ, ap, arith}
use Rattle.conc_show_timeline.specs.Timeline.{ruler_mark}
use Rattle.conc_show_timeline.proofs.Columns.{column_end, column_more, from_start}
use Rattle.conc_show_timeline.proofs.ruler.put_columns.Goals as goal

pub loop-column-init : goal.loop-column-init
loop-column-init c = ap (λ (xs : List ℕ). c.args.out.now.items ++ xs) (from_start (λ k. ruler_mark c.args.events.now k ∷ []))

pub loop-column-preserved : goal.loop-column-preserved
loop-column-preserved c =
    column_more (λ k. ruler_mark c.args.events.now k ∷ []) c.loop-column.out.items c.put_bytes.new.out.items _ c.loop-column.column (omega arith) c.loop-column.invariant
    (c.in_ok-put_bytes.ensures ∙ ap (λ (m : ℕ). c.loop-column.out.items ++ m ∷ []) c.mark_of.ensures)

pub returns : goal.returns
returns c = column_end (λ k. ruler_mark c.args.events.now k ∷ []) c.loop-column.out.items _ c.loop-column.column (omega arith) c.loop-column.invariant
