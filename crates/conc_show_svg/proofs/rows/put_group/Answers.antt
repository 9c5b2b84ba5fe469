use Rattle.std.proofs.Common.{◌∙◌, ◌++◌, ℕ, ap}
use Rattle.std.specs.Fmt.{decimal}
use Rattle.std.proofs.lemmas.Result.{on_ok_weaker}
use Rattle.conc_show_svg.proofs.Chains.{three_ones}
use Rattle.conc_show_svg.specs.Rows.{group_text}
use Rattle.conc_show_svg.proofs.rows.put_group.Goals as goal

pub returns : goal.returns
unfolding group_text
returns c =
    on_ok_weaker c.put_bytes-2.result
    (three_ones c.args.out.now.items _ _ _ _ _ _ c.in_ok-put_bytes.ensures
    (c.in_ok-put_decimal.ensures.ok ∙ ap (λ (n : ℕ). c.put_bytes.new.out.items ++ decimal n) c.from.ensures)) c.put_bytes-2.ensures
