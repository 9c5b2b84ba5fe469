use Rattle.std.proofs.Common.{length, sym, ◌∙◌, ap, subst}
use Rattle.conc_event_effects.specs.Advance.{done_after}
use Rattle.conc_event_reach.specs.Started.{AreStartedWithin}
use Rattle.conc_machine.specs.Indexes.{first_undone}
use Rattle.conc_machine.proofs.Frames.{AreParts-alike, length-after}
use Rattle.conc_machine.proofs.taking.take_in.Goals as goal

pub write_all-requires-clause-inside : goal.write_all-requires-clause-inside
write_all-requires-clause-inside c = c.reach_in_life-span.ensures.inside c.requires.parts.spans c.requires.started.inside

pub write_all-requires-clause-leaves : goal.write_all-requires-clause-leaves
write_all-requires-clause-leaves c = c.reach_in_life-span.ensures.leaves _ c.requires.parts.spans c.requires.started

pub take_tick-requires : goal.take_tick-requires
take_tick-requires c =
    let same = c.take_command.ensures in
    AreParts-alike c.args.plan.now c.write_all.new.indexes _
    (record {
      spans = same.parts.spans;
      classes = same.parts.classes;
      running = same.parts.running;
      steps = same.parts.steps;
      lets = same.parts.lets;
      starts = same.parts.starts;
    })
    (record { facts = same.facts; time = same.time }) c.write_all.ensures.parts

pub returns-clause-indexes : goal.returns-clause-indexes
returns-clause-indexes c =
    let plan = c.args.plan.now in
    let parts = c.take_tick.ensures.parts in
    let tick = c.take_tick.ensures.tick in
    let command = c.take_command.ensures in
    let written = c.write_all.ensures.facts in
    record {
      parts = record {
        all = parts.all;
        spans = parts.spans;
        classes = parts.classes;
        running = parts.running;
        steps = parts.steps;
        lets = parts.lets;
        starts = parts.starts;
      };
      flags =
          ap length (tick.done ∙ (command.done ∙ ap (λ done. done_after done c.args.e) written.done))
          ∙ (length-after c.args.indexes.now.state.done c.args.e ∙ c.requires.flags);
      command = tick.command ∙ (command.command ∙ sym (ap first_undone tick.done));
      started =
          subst (λ facts. AreStartedWithin plan facts c.started_after-started.result) (sym (tick.facts ∙ (command.facts ∙ written.facts)))
          (c.started_after-started.ensures _ _ c.requires.started);
    }
