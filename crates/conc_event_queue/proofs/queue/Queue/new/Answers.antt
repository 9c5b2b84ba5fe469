use Rattle.std.proofs.Common.{◌≡◌, ◌*◌, arith}
use Rattle.conc_event_queue.proofs.Vacant.{vacant_slots, vacant_tournament}
use Rattle.conc_event_queue.proofs.queue.Queue.new.Goals as goal

pub invariant_of-result : goal.invariant_of-result
invariant_of-result c =
    let all : c.loop.counter ≡ c.args.slots * 2 = omega (arith, c.in-Some.ensures) in
    rw (c.loop.invariant, all) (vacant_tournament c.args.slots)

pub returns : goal.returns
returns c =
    let all : c.loop.counter ≡ c.args.slots * 2 = omega (arith, c.in-Some.ensures) in
    rw (c.loop.invariant, all) (vacant_slots c.args.slots)
