use Rattle.std.proofs.lemmas.Result.{on_ok_weaker}
use Rattle.conc_show_svg.proofs.Chains.{four_ones}
use Rattle.conc_show_svg.specs.Readings.{line_text}
use Rattle.conc_show_svg.proofs.readings.put_line.Goals as goal

pub returns : goal.returns
unfolding line_text
returns c =
    on_ok_weaker c.put_bytes-2.result
    (four_ones c.args.out.now.items _ _ _ _ _ _ _ _ c.in_ok-put_path.ensures c.in_ok-put_bytes.ensures c.in_ok-put_moment.ensures.ok) c.put_bytes-2.ensures
