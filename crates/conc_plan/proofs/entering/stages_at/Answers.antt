use Rattle.conc_plan.proofs.Parts.{no_set}
use Rattle.conc_plan.proofs.entering.stages_at.Goals as goal

pub returns-in-None-clause-parts : goal.returns-in-None-clause-parts
returns-in-None-clause-parts c = no_set c.args.setup.now _ _ c.as_slice.ensures c.in-None.ensures.lookup.0
