use Rattle.std.proofs.Common.{reverse}
use Rattle.conc_types.specs.declared.event.Event.TheVariants as event
use Rattle.conc_base_law.proofs.Coming.{last-follows, stage-next}
use Rattle.conc_base_law.proofs.promises.stages_follow_links.Goals as goal

pub returns : goal.returns
returns c = λ plan before set stage has h. stage-next plan (reverse before) set stage has (last-follows plan before (event.Stage set.number stage) h)
