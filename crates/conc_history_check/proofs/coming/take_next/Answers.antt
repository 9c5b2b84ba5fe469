use Rattle.std.proofs.Common.{arith}
use Rattle.conc_history_check.proofs.Slots.{has-slot}
use Rattle.conc_history_check.proofs.coming.take_next.Goals as goal

pub put-requires : goal.put-requires
put-requires c = let there = has-slot c.args.plan.now c.args.coming.now c.args.r.now c.requires.size c.requires.known in omega (arith, there.0, there.1)

pub overflow_sub-r : goal.overflow_sub-r
overflow_sub-r c = let there = has-slot c.args.plan.now c.args.coming.now c.args.r.now c.requires.size c.requires.known in omega (arith, there.0)
