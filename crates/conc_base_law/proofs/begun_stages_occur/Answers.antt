use Rattle.conc_base_law.proofs.BegunStages.{stages_begun-occur}
use Rattle.conc_base_law.proofs.begun_stages_occur.Goals as goal

pub returns : goal.returns
returns c = stages_begun-occur
