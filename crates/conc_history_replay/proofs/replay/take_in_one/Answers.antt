use Rattle.std.proofs.Common.{◌∙◌, sym, ap}
use Rattle.conc_event_effects.specs.Advance.{all_after}
use Rattle.conc_history_replay.proofs.OneAlone.{named-none}
use Rattle.conc_history_replay.proofs.replay.take_in_one.Goals as goal

pub returns : goal.returns
returns c = record {
  empty = c.settle.ensures.empty;
  time = c.settle.ensures.time;
  used = c.settle.ensures.used;
  done = c.settle.ensures.done;
  facts =
      c.settle.ensures.facts
      ∙ (c.step_one.ensures
      ∙ ap (λ named. all_after c.args.plan.now named c.args.e c.args.plan.now.requests c.args.state.now.facts)
      (sym (named-none c.args.plan.now c.args.e c.args.id c.args.state.now.facts c.requires)));
}
