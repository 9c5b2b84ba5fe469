use Rattle.std.proofs.Common.{◌≡◌, ◌∷◌, [], ◌++◌}
use Rattle.conc_show_timeline.specs.Columns.{over_columns}
use Rattle.conc_show_timeline.specs.Timeline.{ruler_mark}
use Rattle.conc_show_timeline.proofs.Columns.{from_column}
use Rattle.conc_show_timeline.proofs.ruler.put_columns.Given as goal

abbrev pub invariant-loop-column : goal.invariant-loop-column
invariant-loop-column l =
    l.out.items ++ from_column (λ c. ruler_mark l.events c ∷ []) l.column ≡ l.initial.out.items ++ over_columns (λ c. ruler_mark l.events c ∷ [])
