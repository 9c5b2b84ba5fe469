use Rattle.std.proofs.lemmas.Result.{err_from_is_err_and}
use Rattle.conc_run_open.proofs.Failing.{unopened}
use Rattle.conc_run_open.proofs.reading.open_own.Goals as goal

pub returns-in_err-opened-clause-cause : goal.returns-in_err-opened-clause-cause
returns-in_err-opened-clause-cause g c =
    let p = err_from_is_err_and c.from_residual.result c.from_residual.ensures.1 in
    let fail = c.in_err-opened.ensures in
    rw (p.1, p.2) (unopened c.args.plan.now c.args.digests.now (g.D.Disk.state c.args.disk.now) (g.D.Disk.state c.open_on.new.disk) _ fail.not_journal fail.fault)
