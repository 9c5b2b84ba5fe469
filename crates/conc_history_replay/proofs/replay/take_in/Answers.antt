use Rattle.conc_history_replay.proofs.replay.take_in.Goals as goal

pub returns-clause-started : goal.returns-clause-started
returns-clause-started c = rw c.take_in_state.ensures.facts (c.started_after.ensures _ _ c.requires.started)
