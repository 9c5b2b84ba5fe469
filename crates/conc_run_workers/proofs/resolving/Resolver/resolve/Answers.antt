use Rattle.std.proofs.Common.{refl}
use Rattle.conc_run_workers.proofs.Stepping.{both, handed, loans-same, on-board, may-step, sets-places, twice}
use Rattle.conc_run_workers.proofs.resolving.Resolver.resolve.Goals as goal

pub settle-requires : goal.settle-requires
settle-requires g c = may-step (sets-places c.requires (g.met.E.Disk.seen_is_left c.args.self.now.spool.now) (loans-same refl) refl c.set_places.ensures)

pub returns-in_err-settle-clause-steps : goal.returns-in_err-settle-clause-steps
returns-in_err-settle-clause-steps g c = handed c.from_residual.result c.from_residual.ensures.1 (both (sets-places c.requires (g.met.E.Disk.seen_is_left c.args.self.now.spool.now) (loans-same refl) refl c.set_places.ensures) c.in_err-settle.ensures)

pub loop-init : goal.loop-init
loop-init g c = twice (sets-places c.requires (g.met.E.Disk.seen_is_left c.args.self.now.spool.now) (loans-same refl) refl c.set_places.ensures)
    (both c.in_ok-settle.ensures (on-board (may-step c.in_ok-settle.ensures) (g.met.E.Disk.seen_is_left c.settle.new.self.spool.now) (loans-same refl) refl c.release_all.ensures))

pub turn-requires : goal.turn-requires
turn-requires g c = may-step c.loop.invariant

pub returns-in_err-turn-clause-steps : goal.returns-in_err-turn-clause-steps
returns-in_err-turn-clause-steps g c = handed c.from_residual-in_err-turn.result c.from_residual-in_err-turn.ensures.1 (both c.loop.invariant c.in_err-turn.ensures.steps)

pub returns-then-branch-clause-steps : goal.returns-then-branch-clause-steps
returns-then-branch-clause-steps g c = twice c.loop.invariant c.in_ok-turn.ensures.steps

pub loop-preserved : goal.loop-preserved
loop-preserved g c = twice c.loop.invariant c.in_ok-turn.ensures.steps
