use Rattle.conc_disk.proofs.Same.{torn-same}
use Rattle.conc_edge_devices.proofs.look.SnapshotDiskDisk.write_at.Goals as goal

pub returns-clause-images : goal.returns-clause-images
returns-clause-images g c = λ image left. (image, tt, torn-same c.args._at _ image)
