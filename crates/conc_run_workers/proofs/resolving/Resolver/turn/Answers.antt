use Rattle.conc_run_workers.proofs.Stepping.{both, handed, may-step, twice}
use Rattle.conc_run_workers.proofs.resolving.Resolver.turn.Goals as goal

pub see_to_places-requires : goal.see_to_places-requires
see_to_places-requires g c = may-step c.in_ok-settle.ensures

pub take_reading-requires : goal.take_reading-requires
take_reading-requires g c = may-step c.in_ok-see_to_places.ensures

pub wait_for_hands-requires : goal.wait_for_hands-requires
wait_for_hands-requires g c = may-step c.in_ok-take_reading.ensures

pub returns-in_err-settle-clause-steps : goal.returns-in_err-settle-clause-steps
returns-in_err-settle-clause-steps g c = handed c.from_residual.result c.from_residual.ensures.1 c.in_err-settle.ensures

pub returns-in_err-see_to_places-clause-steps : goal.returns-in_err-see_to_places-clause-steps
returns-in_err-see_to_places-clause-steps g c = handed c.from_residual-in_err-see_to_places.result c.from_residual-in_err-see_to_places.ensures.1 (both c.in_ok-settle.ensures c.in_err-see_to_places.ensures)

pub returns-then-branch-clause-steps : goal.returns-then-branch-clause-steps
returns-then-branch-clause-steps g c = twice c.in_ok-settle.ensures c.in_ok-see_to_places.ensures

pub returns-in_err-take_reading-clause-steps : goal.returns-in_err-take_reading-clause-steps
returns-in_err-take_reading-clause-steps g c = handed c.from_residual-in_err-take_reading.result c.from_residual-in_err-take_reading.ensures.1 (both c.in_ok-settle.ensures (both c.in_ok-see_to_places.ensures c.in_err-take_reading.ensures))

pub returns-then-branch-2-clause-steps : goal.returns-then-branch-2-clause-steps
returns-then-branch-2-clause-steps g c = twice c.in_ok-settle.ensures (both c.in_ok-see_to_places.ensures c.in_ok-take_reading.ensures)

pub returns-then-is_none-clause-steps : goal.returns-then-is_none-clause-steps
returns-then-is_none-clause-steps g c = twice c.in_ok-settle.ensures (both c.in_ok-see_to_places.ensures c.in_ok-take_reading.ensures)

pub returns-in_err-wait_for_hands-clause-steps : goal.returns-in_err-wait_for_hands-clause-steps
returns-in_err-wait_for_hands-clause-steps g c = handed c.from_residual-in_err-wait_for_hands.result c.from_residual-in_err-wait_for_hands.ensures.1 (both c.in_ok-settle.ensures (both c.in_ok-see_to_places.ensures (both c.in_ok-take_reading.ensures c.in_err-wait_for_hands.ensures)))

pub returns-clause-steps : goal.returns-clause-steps
returns-clause-steps g c = twice c.in_ok-settle.ensures (both c.in_ok-see_to_places.ensures (both c.in_ok-take_reading.ensures c.in_ok-wait_for_hands.ensures))
