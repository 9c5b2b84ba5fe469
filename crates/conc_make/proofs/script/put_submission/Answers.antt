use Rattle.std.proofs.Common.{◌∙◌, ◌+◌, ◌∷◌, ◌++◌, ap}
use Rattle.std.specs.Fmt.{decimal}
use Rattle.conc_make.specs.Draws.{after, drawn, next}
use Rattle.conc_make.specs.Files.{item_word, submission}
use Rattle.conc_make.proofs.Lines.{submission-line}
use Rattle.conc_make.proofs.script.put_submission.Goals as goal

pub returns-clause-text : goal.returns-clause-text
unfolding submission after
returns-clause-text c =
    let first = c.draw-item.ensures.number in
    let second = c.draw-user.ensures.number ∙ ap next first in
    let third = c.draw-priority.ensures.number ∙ ap next second in
    let x = c.args.draws.now.number in
    submission-line (item_word (drawn 9 (next x))) (decimal (drawn 3 (next (next x)))) (decimal (1 + drawn 99 (next (next (next x)))))
    (decimal (drawn 4 (next (next (next (next x)))))) c.args.out.now.items _ _ _ _ _ _
    c.in_ok-put_bytes.ensures
    (c.in_ok-put_item.ensures ∙ ap (λ n. c.put_bytes.new.out.items ++ item_word n) c.draw-item.ensures.drawn)
    (c.in_ok-put_numbered.ensures ∙ ap (λ n. c.put_item.new.out.items ++ (44 ∷ 117 ∷ decimal n)) (c.draw-user.ensures.drawn ∙ ap (λ y. drawn 3 (next y)) first))
    (c.in_ok-put_numbered-2.ensures ∙ ap (λ n. c.put_numbered.new.out.items ++ (44 ∷ decimal (1 + n))) (c.draw-priority.ensures.drawn ∙ ap (λ y. drawn 99 (next y)) second))
    (c.in_ok-put_numbered-3.ensures ∙ ap (λ n. c.put_numbered-2.new.out.items ++ (44 ∷ 44 ∷ 100 ∷ decimal n)) (c.draw-domain.ensures.drawn ∙ ap (λ y. drawn 4 (next y)) third))
    c.in_ok-put_bytes-2.ensures
