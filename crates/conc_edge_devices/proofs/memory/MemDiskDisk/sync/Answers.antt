use Rattle.std.proofs.Common.{rules}
use Rattle.conc_edge_devices.proofs.Grown.{images-grown, later-grown, stays-synced}
use Rattle.conc_edge_devices.proofs.memory.MemDiskDisk.sync.Goals as goal

pub returns-in-Ok-clause-kept : goal.returns-in-Ok-clause-kept
returns-in-Ok-clause-kept c = record {
  later = later-grown _ _ _ _ c.in-Ok.ensures.synced _ _ c.begin.ensures.faults;
  durable = λ image left. (images-grown _ _ _ _ c.in-Ok.ensures.synced image left).2;
  stays = stays-synced _ _ _ _ _ c.in-Ok.ensures.synced;
  failed = search rules;
}
