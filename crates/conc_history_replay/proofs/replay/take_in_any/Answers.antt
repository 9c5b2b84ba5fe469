use Rattle.conc_history_replay.proofs.replay.take_in_any.Goals as goal

pub step_within-requires : goal.step_within-requires
step_within-requires c = c.reach_in_life-span.ensures.leaves _ c.requires.spans c.requires.started
