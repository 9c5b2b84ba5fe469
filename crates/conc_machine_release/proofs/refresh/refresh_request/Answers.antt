use Rattle.std.proofs.Common.{get_or, length, [], ap, arith}
use Rattle.conc_machine_release.proofs.Slots.{slot-there}
use Rattle.conc_machine_release.proofs.refresh.refresh_request.Goals as goal

pub put_in-requires-clause-queue : goal.put_in-requires-clause-queue
put_in-requires-clause-queue c =
    let there = slot-there c.args.plan.now c.args.classes.now c.requires.classes c.args.queues.now.items c.requires.slots c.args.r.now c.requires.known in
    omega (arith, there.0, c.class.ensures)

pub put_in-requires-clause-slot : goal.put_in-requires-clause-slot
put_in-requires-clause-slot c =
    let there = slot-there c.args.plan.now c.args.classes.now c.requires.classes c.args.queues.now.items c.requires.slots c.args.r.now c.requires.known in
    omega (arith, there.1, c.slot.ensures, ap (λ n. length (get_or c.args.queues.now.items n [])) c.class.ensures)
