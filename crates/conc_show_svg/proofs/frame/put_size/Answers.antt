use Rattle.std.proofs.lemmas.Result.{on_ok_weaker}
use Rattle.conc_show_svg.proofs.Chains.{two_two_one}
use Rattle.conc_show_svg.specs.Frame.{size_text}
use Rattle.conc_show_svg.proofs.frame.put_size.Goals as goal

pub returns : goal.returns
unfolding size_text
returns c =
    on_ok_weaker c.put_bytes.result (two_two_one c.args.out.now.items _ _ _ _ _ _ _ _ c.in_ok-put_number.ensures c.in_ok-put_number-2.ensures) c.put_bytes.ensures
