use Rattle.conc_run_workers.proofs.Stepping.{both, handed, none, ok, may-step, twice}
use Rattle.conc_run_workers.proofs.resolving.Resolver.see_to_places.Goals as goal

pub loop-index-init : goal.loop-index-init
loop-index-init g c = none c.requires (g.met.E.Disk.seen_is_left c.args.self.now.spool.now)

pub see_to_started-requires : goal.see_to_started-requires
see_to_started-requires g c = may-step c.loop-index.invariant

pub see_to_claimed-requires : goal.see_to_claimed-requires
see_to_claimed-requires g c = may-step c.in_ok-any.ensures

pub returns-in_err-any : goal.returns-in_err-any
returns-in_err-any g c = handed c.from_residual.result c.from_residual.ensures.1 (both c.loop-index.invariant c.in_err-any.ensures)

pub returns-in_err-any-2 : goal.returns-in_err-any-2
returns-in_err-any-2 g c = handed c.from_residual-in_err-any-2.result c.from_residual-in_err-any-2.ensures.1 (both c.loop-index.invariant (both c.in_ok-any.ensures c.in_err-any-2.ensures))

pub loop-index-preserved : goal.loop-index-preserved
loop-index-preserved g c = twice c.loop-index.invariant (both c.in_ok-any.ensures c.in_ok-any-2.ensures)

pub returns : goal.returns
returns g c = ok c.loop-index.invariant
