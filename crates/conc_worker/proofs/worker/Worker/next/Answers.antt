use Rattle.conc_worker.proofs.StepsMade.{finds_after}
use Rattle.conc_worker.proofs.worker.Worker.next.Goals as goal

pub returns-in-Some-look-clause-found : goal.returns-in-Some-look-clause-found
returns-in-Some-look-clause-found g c = finds_after c.args.self.now c.args.hand.now c.loop-2.hand c.look.new.hand c.in-Some-look.next c.loop-2.invariant.rests.made c.in-Some-look.ensures.found

pub returns-in-Some-look-2-clause-found : goal.returns-in-Some-look-2-clause-found
returns-in-Some-look-2-clause-found g c = finds_after c.args.self.now c.args.hand.now c.loop-2.hand c.look-in-loop.new.hand c.in-Some-look-2.next c.loop-2.invariant.rests.made c.in-Some-look-2.ensures.found
