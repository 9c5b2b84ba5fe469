use Rattle.conc_base_law.proofs.FirstEvent.{begins_with_tick}
use Rattle.conc_base_law.proofs.begins_with_a_tick.Goals as goal

pub returns : goal.returns
returns c = λ plan e history lawful. begins_with_tick plan e history lawful
