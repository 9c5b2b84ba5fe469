use Rattle.std.proofs.Common.{◌≡◌, ◌++◌}
use Rattle.conc_show_timeline.specs.Marks.{mark_of}
use Rattle.conc_show_timeline.specs.Columns.{over_columns}
use Rattle.conc_show_timeline.specs.Rows.{mark_text}
use Rattle.conc_show_timeline.proofs.Columns.{from_column}
use Rattle.conc_show_timeline.proofs.rows.put_marks.Given as goal

abbrev pub invariant-loop-column : goal.invariant-loop-column
invariant-loop-column l =
    l.out.items ++ from_column (λ c. mark_text l.colours (mark_of l.steps c)) l.column ≡ l.initial.out.items ++ over_columns (λ c. mark_text l.colours (mark_of l.steps c))
