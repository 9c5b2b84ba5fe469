use Rattle.std.proofs.Common.{refl}
use Rattle.conc_edge_devices.specs.declared.trace.Act.TheVariants.{Sync}
use Rattle.conc_edge_devices.specs.declared.trace.Change.{Change}
use Rattle.conc_edge_devices.proofs.Changes.{fit-if, replays-if}
use Rattle.conc_edge_devices.proofs.trace.Trace.sync.Goals as goal

pub invariant_of-self : goal.invariant_of-self
invariant_of-self c =
    let old = c.args.self.now in
    let y : Change = record { number = c.args.number; act = Sync } in
    record {
      replays = replays-if _ old.changes.items _ y _ old.bytes.items refl old.replays c.push.ensures.items;
      fit = fit-if _ old.changes.items _ y _ old.bytes.items old.replays old.fit c.push.ensures.items refl;
    }
