use Rattle.std.proofs.Common.{◌∙◌, ap}
use Rattle.conc_show_timeline.specs.Names.{readable}
use Rattle.conc_show_timeline.proofs.Readable.{readable_none, readable_text}
use Rattle.conc_show_timeline.proofs.names.text_of.Goals as goal

pub returns-in-Ok : goal.returns-in-Ok
returns-in-Ok c =
    c.in-Ok.ensures.cases.0 ∙ readable_text c.as_bytes.result.now c.in-Ok.ensures.cases.1 ∙ ap readable c.as_bytes.ensures

pub returns-in-Err : goal.returns-in-Err
returns-in-Err c = readable_none c.as_bytes.result.now c.in-Err.ensures.cases.0 ∙ ap readable c.as_bytes.ensures
