use Rattle.conc_run_workers.proofs.Stepping.{both, handed, ok, may-step, twice}
use Rattle.conc_run_workers.proofs.resolving.Resolver.see_to.Goals as goal

pub settle-requires : goal.settle-requires
settle-requires g c = may-step c.in_ok-done.ensures

pub returns-in_err-done : goal.returns-in_err-done
returns-in_err-done g c = handed c.from_residual.result c.from_residual.ensures.1 c.in_err-done.ensures

pub returns-in_err-settle : goal.returns-in_err-settle
returns-in_err-settle g c = handed c.from_residual-in_err-settle.result c.from_residual-in_err-settle.ensures.1 (both c.in_ok-done.ensures c.in_err-settle.ensures)

pub returns-in_ok-settle : goal.returns-in_ok-settle
returns-in_ok-settle g c = twice c.in_ok-done.ensures c.in_ok-settle.ensures

pub returns-else-done : goal.returns-else-done
returns-else-done g c = ok c.in_ok-done.ensures
