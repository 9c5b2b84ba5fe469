use Rattle.std.proofs.Common.{◌∙◌, ◌++◌, List, Option, ap}
use Rattle.std.proofs.lemmas.Result.{on_ok_weaker}
use Rattle.conc_types.specs.declared.event.Moment.{Moment}
use Rattle.conc_show_svg.proofs.Chains.{three_ones}
use Rattle.conc_show_svg.specs.Frame.{ends_text, title_text}
use Rattle.conc_show_svg.proofs.frame.put_title.Goals as goal

pub returns : goal.returns
unfolding title_text
returns c =
    on_ok_weaker c.put_bytes-2.result
    (three_ones c.args.out.now.items _ _ _ _ _ _ c.in_ok-put_bytes.ensures
    (c.in_ok-put_ends.ensures ∙ ap (λ (ms : List (Option Moment)). c.put_bytes.new.out.items ++ ends_text ms) c.as_slice.ensures.value)) c.put_bytes-2.ensures
