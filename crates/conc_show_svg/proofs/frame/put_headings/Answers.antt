use Rattle.std.proofs.lemmas.Result.{on_ok_weaker}
use Rattle.conc_show_svg.proofs.Chains.{one_two_one}
use Rattle.conc_show_svg.specs.Frame.{headings_text}
use Rattle.conc_show_svg.proofs.frame.put_headings.Goals as goal

pub returns : goal.returns
unfolding headings_text
returns c =
    on_ok_weaker c.put_bytes-2.result (one_two_one c.args.out.now.items _ _ _ _ _ _ _ c.in_ok-put_bytes.ensures c.in_ok-put_number.ensures) c.put_bytes-2.ensures
