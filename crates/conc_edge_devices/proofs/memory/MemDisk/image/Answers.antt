use Rattle.conc_edge_devices.proofs.Begun.{begun-since}
use Rattle.conc_edge_devices.specs.Grows.{start}
use Rattle.conc_edge_devices.proofs.memory.MemDisk.image.Goals as goal

pub returns-clause-since_start : goal.returns-clause-since_start
returns-clause-since_start c =
    let trace = c.args.self.now.trace in
    begun-since c.args.calls trace.changes.items (start trace) c.in_ok-image_in_call.field-0.items c.in_ok-image_in_call.ensures.left
