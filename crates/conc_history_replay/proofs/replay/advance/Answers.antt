use Rattle.conc_event_effects.proofs.NextState.{state-next}
use Rattle.conc_history_replay.proofs.replay.advance.Goals as goal

pub returns-clause-state : goal.returns-clause-state
returns-clause-state c = λ past is. state-next _ _ _ _ past c.take_in.ensures.after is
