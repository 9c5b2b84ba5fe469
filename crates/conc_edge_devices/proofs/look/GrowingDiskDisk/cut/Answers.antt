use Rattle.conc_disk.proofs.Same.{shortened-same}
use Rattle.conc_edge_devices.proofs.look.GrowingDiskDisk.cut.Goals as goal

pub returns-clause-images : goal.returns-clause-images
returns-clause-images g c = λ image left. (image, tt, shortened-same c.args._len image)
