use Rattle.conc_run_state.specs.Handed.{handed}
use Rattle.conc_run_laws.proofs.Ended.{end-fit}
use Rattle.conc_run_laws.proofs.next.the_end_is_fit.Goals as goal

pub returns : goal.returns
returns g c plan readings digests journal journal' spool spool' threads found acknowledged last image texts left end =
    end-fit threads (handed plan readings digests (g.D.Disk.state journal) (g.D.Disk.state journal') (g.E.Disk.state spool) (g.E.Disk.state spool'))
    found acknowledged last image texts left end
