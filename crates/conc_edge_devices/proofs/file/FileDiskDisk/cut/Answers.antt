use Rattle.std.proofs.Common.{rules}
use Rattle.conc_disk.proofs.Same.{shortened-same}
use Rattle.conc_edge_devices.proofs.file.FileDiskDisk.cut.Goals as goal

pub returns-clause-called : goal.returns-clause-called
returns-clause-called g c = record {
  promises = record {
    later = search rules;
    cut = search rules;
    torn = search rules;
    images = λ image left. (image, tt, shortened-same c.args.len image);
    failed = search rules;
  };
  broken = search rules;
}
