use Rattle.conc_run_workers.proofs.Stepping.{both, handed, none, may-step, twice}
use Rattle.conc_run_workers.proofs.resolving.Resolver.wait_for_hands.Goals as goal

pub loop-init : goal.loop-init
loop-init g c = none c.requires (g.met.E.Disk.seen_is_left c.args.self.now.spool.now)

pub see_to_places-requires : goal.see_to_places-requires
see_to_places-requires g c = may-step c.loop.invariant

pub returns-in_err-see_to_places : goal.returns-in_err-see_to_places
returns-in_err-see_to_places g c = handed c.from_residual.result c.from_residual.ensures.1 (both c.loop.invariant c.in_err-see_to_places.ensures)

pub returns-then-branch : goal.returns-then-branch
returns-then-branch g c = twice c.loop.invariant c.in_ok-see_to_places.ensures

pub loop-preserved : goal.loop-preserved
loop-preserved g c = twice c.loop.invariant c.in_ok-see_to_places.ensures

pub see_to_all-requires : goal.see_to_all-requires
see_to_all-requires g c = may-step c.loop.invariant

pub returns-in_err-see_to_all : goal.returns-in_err-see_to_all
returns-in_err-see_to_all g c = handed c.from_residual-in_err-see_to_all.result c.from_residual-in_err-see_to_all.ensures.1 (both c.loop.invariant c.in_err-see_to_all.ensures)

pub returns-then-branch-2 : goal.returns-then-branch-2
returns-then-branch-2 g c = twice c.loop.invariant c.in_ok-see_to_all.ensures

pub returns : goal.returns
returns g c = twice c.loop.invariant c.in_ok-see_to_all.ensures
