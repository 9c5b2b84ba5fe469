use Rattle.conc_run_state.specs.Handed.{handed}
use Rattle.conc_run_laws.proofs.Crashed.{next-run}
use Rattle.conc_run_laws.proofs.next.the_next_run.Goals as goal
use Rattle.std.proofs.Common.{refl}

pub returns : goal.returns
returns g c plan readings again digests journal journal' shown shown' spool spool' spool_shown spool_shown' threads found acknowledged last image texts began left over =
    let earlier = handed plan readings digests (g.D.Disk.state journal) (g.D.Disk.state journal') (g.E.Disk.state spool) (g.E.Disk.state spool') in
    let next = handed plan again digests (g.D.Disk.state shown) (g.D.Disk.state shown') (g.E.Disk.state spool_shown) (g.E.Disk.state spool_shown') in
    next-run threads earlier next found acknowledged last image texts refl refl again.in_order (g.met.D.Disk.only_now journal) began left over
