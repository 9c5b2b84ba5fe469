use Rattle.std.proofs.Common.{◌∙◌, ◌++◌, List, ℕ, ap}
use Rattle.std.specs.Fmt.{decimal}
use Rattle.std.proofs.lemmas.Result.{on_ok_weaker}
use Rattle.conc_show_svg.proofs.Chains.{six_ones}
use Rattle.conc_show_svg.specs.Bars.{lane_bar_head}
use Rattle.conc_show_svg.proofs.bars.put_lane_bar_head.Goals as goal

pub returns : goal.returns
unfolding lane_bar_head
returns c =
    on_ok_weaker c.put_place.result
    (six_ones c.args.out.now.items _ _ _ _ _ _ _ _ _ _ _ _ c.in_ok-put_bytes.ensures
    (c.in_ok-put_bytes-2.ensures ∙ ap (λ (w : List ℕ). c.put_bytes.new.out.items ++ w) c.outcome_word.ensures)
    c.in_ok-put_bytes-3.ensures
    (c.in_ok-put_decimal.ensures.ok ∙ ap (λ (n : ℕ). c.put_bytes-3.new.out.items ++ decimal n) c.from.ensures)
    c.in_ok-put_bytes-4.ensures) c.put_place.ensures
