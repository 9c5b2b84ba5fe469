use Rattle.conc_data_repeat_laws.proofs.Accepted.{accepted}
use Rattle.conc_data_repeat_laws.proofs.expanded_scripts_are_read.Goals as goal

pub returns : goal.returns
returns c = accepted
