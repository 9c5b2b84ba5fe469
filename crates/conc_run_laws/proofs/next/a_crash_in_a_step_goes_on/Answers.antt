use Rattle.conc_run_state.specs.Disks.{disks}
use Rattle.conc_run_state.specs.Handed.{handed}
use Rattle.conc_run_laws.proofs.Moments.{from-event, from-text}
use Rattle.conc_run_laws.proofs.next.a_crash_in_a_step_goes_on.Goals as goal
use Rattle.std.proofs.Common.{refl}

pub returns-clause-text : goal.returns-clause-text
returns-clause-text g c plan readings digests work journal old new step again journal_shown journal_shown' spool_shown spool_shown' image texts crashed over =
    let next = handed plan again digests (g.D.Disk.state journal_shown) (g.D.Disk.state journal_shown') (g.E.Disk.state spool_shown) (g.E.Disk.state spool_shown') in
    from-text plan readings digests work (g.D.Disk.state journal) (g.E.Disk.state old) (g.E.Disk.state new) next image texts refl refl step
    (g.met.D.Disk.only_now journal) (g.met.E.Disk.only_now old) (g.met.E.Disk.seen_is_left old) crashed again.in_order over

pub returns-clause-event : goal.returns-clause-event
returns-clause-event g c plan readings digests work event old new spool step again journal_shown journal_shown' spool_shown spool_shown' image texts crashed over =
    let next = handed plan again digests (g.D.Disk.state journal_shown) (g.D.Disk.state journal_shown') (g.E.Disk.state spool_shown) (g.E.Disk.state spool_shown') in
    from-event plan readings digests work event (g.D.Disk.state old) (g.D.Disk.state new) (g.E.Disk.state spool) next image texts refl refl step
    (g.met.D.Disk.only_now old) (g.met.E.Disk.only_now spool) crashed again.in_order over
