use Rattle.std.proofs.Common.{Some, ap, rules}
use Rattle.conc_edge_devices.proofs.Grown.{bytes-grown, images-grown, later-grown}
use Rattle.conc_edge_devices.proofs.memory.MemDiskDisk.cut.Goals as goal

pub returns-in-Ok-clause-kept : goal.returns-in-Ok-clause-kept
returns-in-Ok-clause-kept c = record {
  later = later-grown _ _ _ _ c.in-Ok.ensures.cut _ _ c.begin.ensures.faults;
  cut = ap Some (bytes-grown _ _ _ _ c.in-Ok.ensures.cut);
  torn = search rules;
  images = images-grown _ _ _ _ c.in-Ok.ensures.cut;
  failed = search rules;
}
