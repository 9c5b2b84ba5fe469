use Rattle.std.proofs.Common.{◌∙◌, ◌∷◌, ◌++◌, ap}
use Rattle.std.specs.Fmt.{decimal}
use Rattle.conc_make.specs.Draws.{after, drawn, next}
use Rattle.conc_make.specs.Files.{row}
use Rattle.conc_make.proofs.Lines.{row-line}
use Rattle.conc_make.proofs.table.put_row.Goals as goal

pub returns-clause-text : goal.returns-clause-text
unfolding row after
returns-clause-text c =
    let key = c.draw-key.ensures.drawn in
    let value = c.draw-value.ensures.drawn ∙ ap (λ x. drawn 1000 (next x)) c.draw-key.ensures.number in
    row-line (decimal (drawn 5 (next c.args.draws.now.number))) (decimal (drawn 1000 (next (next c.args.draws.now.number)))) c.args.out.now.items _ _ _
    (c.in_ok-put_numbered.ensures ∙ ap (λ n. c.args.out.now.items ++ (107 ∷ decimal n)) key)
    (c.in_ok-put_numbered-2.ensures ∙ ap (λ n. c.put_numbered.new.out.items ++ (44 ∷ decimal n)) value)
    c.in_ok-put_bytes.ensures
