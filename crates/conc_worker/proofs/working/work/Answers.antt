use Rattle.conc_worker.proofs.StepsMade.{ends_after}
use Rattle.conc_worker.proofs.working.work.Goals as goal

pub returns-in-Finish-clause-ended : goal.returns-in-Finish-clause-ended
returns-in-Finish-clause-ended g c = (ends_after c.args.board.now c.args.hand c.loop.hand c.next-in-loop.new.hand c.loop.invariant.rests.made c.in-Finish.ensures.found).saw
