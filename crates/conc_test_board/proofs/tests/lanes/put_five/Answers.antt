use Rattle.std.proofs.Common.{None, arith}
use Rattle.conc_pool_lanes.specs.Lanes.{plan_of, puts_of}
use Rattle.conc_pool_lanes.specs.Rooms.{room_for}
use Rattle.conc_test_board.proofs.tests.lanes.put_five.Goals as goal

pub put-requires-clause-room : goal.put-requires-clause-room
put-requires-clause-room g c =
    let plan = plan_of c.args.lanes.now in
    c.lists_grow_by_one.ensures c.loop-number.number (room_for plan) plan None (puts_of c.loop-number.lead)
    (omega (arith, c.loop-number-test.true, c.requires.room)) c.loop-number.invariant.short
