use Rattle.std.proofs.lemmas.Result.{on_ok_weaker}
use Rattle.conc_show_svg.proofs.Chains.{five_ones}
use Rattle.conc_show_svg.specs.Bars.{titled_text}
use Rattle.conc_show_svg.proofs.bars.put_titled.Goals as goal

pub returns : goal.returns
unfolding titled_text
returns c =
    on_ok_weaker c.put_bytes-2.result
    (five_ones c.args.out.now.items _ _ _ _ _ _ _ _ _ _ c.in_ok-put_sides.ensures c.in_ok-put_heights.ensures c.in_ok-put_bytes.ensures
    c.in_ok-put_run_title.ensures) c.put_bytes-2.ensures
