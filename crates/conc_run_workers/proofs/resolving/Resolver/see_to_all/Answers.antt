use Rattle.conc_run_workers.proofs.Stepping.{both, handed, none, ok, may-step, twice}
use Rattle.conc_run_workers.proofs.resolving.Resolver.see_to_all.Goals as goal

pub loop-request-init : goal.loop-request-init
loop-request-init g c = none c.requires (g.met.E.Disk.seen_is_left c.args.self.now.spool.now)

pub see_to-requires : goal.see_to-requires
see_to-requires g c = may-step c.loop-request.invariant

pub returns-in_err-any : goal.returns-in_err-any
returns-in_err-any g c = handed c.from_residual.result c.from_residual.ensures.1 (both c.loop-request.invariant c.in_err-any.ensures)

pub loop-request-preserved : goal.loop-request-preserved
loop-request-preserved g c = twice c.loop-request.invariant c.in_ok-any.ensures

pub returns : goal.returns
returns g c = ok c.loop-request.invariant
