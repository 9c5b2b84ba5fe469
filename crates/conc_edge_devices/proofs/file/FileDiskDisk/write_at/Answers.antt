use Rattle.std.proofs.Common.{rules}
use Rattle.conc_disk.proofs.Same.{torn-same}
use Rattle.conc_edge_devices.proofs.file.FileDiskDisk.write_at.Goals as goal

pub returns-clause-called : goal.returns-clause-called
returns-clause-called g c = record {
  promises = record {
    later = search rules;
    written = search rules;
    torn = search rules;
    images = λ image left. (image, tt, torn-same c.args.at _ image);
    failed = search rules;
  };
  broken = search rules;
}
