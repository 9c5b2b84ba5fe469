use Rattle.std.proofs.Common.{◌∙◌}
use Rattle.conc_history_replay.proofs.replay.take_in_alone.Goals as goal

pub returns : goal.returns
returns c = record {
  empty = c.settle.ensures.empty;
  time = c.settle.ensures.time;
  used = c.settle.ensures.used;
  done = c.settle.ensures.done;
  facts = c.settle.ensures.facts ∙ c.step_alone.ensures _;
}
