use Rattle.std.proofs.Common.{refl}
use Rattle.conc_machine.proofs.Frames.{AreRunning-same, AreSteps-same}
use Rattle.conc_machine.proofs.taking.take_tick.Goals as goal

pub returns-in-Tick-clause-parts : goal.returns-in-Tick-clause-parts
returns-in-Tick-clause-parts c =
    let old = c.args.indexes.now.state in
    record {
      all = c.requires.all;
      spans = c.requires.spans;
      classes = c.requires.classes;
      running = AreRunning-same c.args.plan.now old _ c.args.indexes.now.running refl c.requires.running;
      steps = AreSteps-same c.args.plan.now old _ c.args.indexes.now.steps refl c.requires.steps;
      lets = c.tick.ensures old refl c.requires.lets;
      starts = c.tick-in-Tick.ensures old refl c.requires.starts;
    }
