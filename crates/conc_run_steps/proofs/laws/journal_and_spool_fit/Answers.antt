use Rattle.conc_run_steps.proofs.Fitting.{fit-event, fit-text}
use Rattle.conc_run_steps.proofs.laws.journal_and_spool_fit.Goals as goal

pub returns-clause-text : goal.returns-clause-text
returns-clause-text g c plan readings digests from work journal old new begun tied stored run =
    fit-text plan readings digests from work begun (g.D.Disk.state journal) (g.E.Disk.state old) (g.E.Disk.state new) tied stored
    (g.met.D.Disk.only_now journal) (g.met.E.Disk.only_now old) (g.met.E.Disk.seen_is_left old) run

pub returns-clause-event : goal.returns-clause-event
returns-clause-event g c plan readings digests from work event old new spool begun tied lawful stored run =
    fit-event plan readings digests from work begun event (g.D.Disk.state old) (g.D.Disk.state new) (g.E.Disk.state spool) tied lawful stored
    (g.met.D.Disk.only_now old) (g.met.E.Disk.only_now spool) run
