use Rattle.conc_run_workers.proofs.Stepping.{both, handed, none, may-step, twice}
use Rattle.conc_run_workers.proofs.resolving.Resolver.settle.Goals as goal

pub loop-init : goal.loop-init
loop-init g c = none c.requires (g.met.E.Disk.seen_is_left c.args.self.now.spool.now)

pub settle_one-requires : goal.settle_one-requires
settle_one-requires g c = may-step c.loop.invariant

pub returns-in_err-settle_one : goal.returns-in_err-settle_one
returns-in_err-settle_one g c = handed c.from_residual.result c.from_residual.ensures.1 (both c.loop.invariant c.in_err-settle_one.ensures)

pub returns-then-not-branch : goal.returns-then-not-branch
returns-then-not-branch g c = twice c.loop.invariant c.in_ok-settle_one.ensures

pub loop-preserved : goal.loop-preserved
loop-preserved g c = twice c.loop.invariant c.in_ok-settle_one.ensures
