use Rattle.std.proofs.Common.{length, ◌∙◌, ap}
use Rattle.conc_history_check.proofs.Slots.{length-vacant}
use Rattle.conc_history_check.proofs.marks.Marks.vacant.Goals as goal

pub returns : goal.returns
returns c = record {
  left = ap length c.in_ok-new.ensures ∙ length-vacant _ ∙ c.len-count.ensures;
  running = ap length c.in_ok-new-2.ensures ∙ length-vacant _ ∙ c.len-count.ensures;
  waiting = ap length c.in_ok-new-3.ensures ∙ length-vacant _ ∙ c.len-count.ensures;
  steps = ap length c.in_ok-new-4.ensures ∙ length-vacant _ ∙ c.len-count.ensures;
  live = c.in_ok-vacant_queues.ensures;
  ready = c.in_ok-vacant_queues-2.ensures;
}
