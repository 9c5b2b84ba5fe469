use Rattle.std.proofs.Common.{◌≡◌, ◌∷◌, ◌++◌, refl}
use Rattle.conc_make.specs.Draws.{after}
use Rattle.conc_make.specs.Files.{made, row, table_header, table_text, text_of}
use Rattle.conc_make.proofs.Sequences.{after-more, at_end, put-more}
use Rattle.conc_make.proofs.table.put_table.Goals as goal

pub loop-row-init : goal.loop-row-init
unfolding after made text_of
loop-row-init c = (refl, c.in_ok-put_bytes.ensures)

pub loop-row-preserved : goal.loop-row-preserved
loop-row-preserved c = (
  after-more 2 c.loop-row._row c.args.draws.now.number _ _ c.loop-row.invariant.0 c.in_ok-put_row.ensures.number,
  put-more table_header row 2 c.loop-row._row c.args.draws.now.number _ c.args.out.now.items _ _ c.loop-row.invariant.0 c.loop-row.invariant.1 c.in_ok-put_row.ensures.text,
)

pub returns-clause-text : goal.returns-clause-text
unfolding table_text
returns-clause-text c =
    at_end (λ n. c.loop-row.out.items ≡ c.args.out.now.items ++ text_of (table_header ∷ made row 2 n c.args.draws.now.number))
    c.loop-row._row 64 c.loop-row.auto._row-end c.loop-row-test.false c.loop-row.invariant.1
