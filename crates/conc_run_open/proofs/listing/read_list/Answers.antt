use Rattle.std.proofs.Common.{subst, sym}
use Rattle.std.proofs.lemmas.Result.{err_from_is_err_and}
use Rattle.conc_base_law.specs.Law.{LawfulSoFar}
use Rattle.conc_run_open.specs.Listing.{IsListed}
use Rattle.conc_run_open.proofs.Listed.{listed, unlisted-cause, unopened-listed}
use Rattle.conc_run_open.proofs.listing.read_list.Goals as goal

pub returns-in_err-opened-clause-cause : goal.returns-in_err-opened-clause-cause
returns-in_err-opened-clause-cause g c =
    let p = err_from_is_err_and c.from_residual.result c.from_residual.ensures.1 in
    rw (p.1, p.2) (unopened-listed c.args.plan.now c.args.digests.now (g.D.Disk.state c.args.journal.now) (g.D.Disk.state c.open_own.new.disk) _ c.in_err-opened.ensures.cause)

pub returns-in_err-resume_whole-clause-cause : goal.returns-in_err-resume_whole-clause-cause
returns-in_err-resume_whole-clause-cause g c =
    let p = err_from_is_err_and c.from_residual-in_err-resume_whole.result c.from_residual-in_err-resume_whole.ensures.1 in
    let found = c.in_ok-opened.ensures in
    rw (p.1, p.2)
    (unlisted-cause c.args.plan.now c.args.digests.now (g.D.Disk.state c.args.journal.now) (g.D.Disk.state c.open_own.new.disk) c.in_ok-opened.opened c.events.result.now _ found.own found.found c.events.ensures c.in_err-resume_whole.ensures.unlisted)

pub returns-clause-listed : goal.returns-clause-listed
returns-clause-listed g c =
    let found = c.in_ok-opened.ensures in
    let good = c.in_ok-resume_whole.ensures in
    subst (IsListed c.args.plan.now c.args.digests.now (g.D.Disk.state c.args.journal.now)) (sym c.into_events.ensures)
    (listed c.args.plan.now c.args.digests.now (g.D.Disk.state c.args.journal.now) c.in_ok-opened.opened found.own found.found
    (subst (LawfulSoFar c.args.plan.now) c.events.ensures good.lawful_so_far) good.whole)
