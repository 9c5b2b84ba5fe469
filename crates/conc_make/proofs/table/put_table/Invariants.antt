use Rattle.std.proofs.Common.{◌≡◌, ◌*◌, ◌∷◌, ◌++◌}
use Rattle.conc_make.specs.Draws.{after}
use Rattle.conc_make.specs.Files.{made, row, table_header, text_of}
use Rattle.conc_make.proofs.table.put_table.Given as goal

abbrev pub invariant-loop-row : goal.invariant-loop-row
invariant-loop-row l =
    (l.draws.number ≡ after (2 * l._row) l.fn.draws.number)
    × (l.out.items ≡ l.fn.out.items ++ text_of (table_header ∷ made row 2 l._row l.fn.draws.number))
