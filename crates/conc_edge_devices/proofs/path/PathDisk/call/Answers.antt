use Rattle.std.proofs.Common.{rules}
use Rattle.conc_edge_devices.proofs.Called.{called}
use Rattle.conc_edge_devices.proofs.path.PathDisk.call.Goals.{in-Ok, in-Err}
use Rattle.conc_edge_devices.proofs.path.PathDisk.call.Goals as goal

pub returns-clause-handed_on : goal.returns-clause-handed_on
returns-clause-handed_on g c = elim c.match-get_or_try_insert_with.branch [
  | in-Ok w ↦ called g.C.FnOnce c.args.call w.in-Ok.disk _ _ _ c.args.self.now.disk _ (search rules) (search rules) (search rules) w.call-done.ensures
  | in-Err w ↦ search rules
]
