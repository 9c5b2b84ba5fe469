use Rattle.std.proofs.Common.{[], get_or, length, ap, arith}
use Rattle.conc_history_check.proofs.Puts.{put-kept, put-own, put-room}
use Rattle.conc_history_check.proofs.Slots.{class-there, has-slot}
use Rattle.conc_history_check.proofs.marks.Marks.put.Goals as goal

pub put_number-requires : goal.put_number-requires
put_number-requires c = has-slot c.args.plan.now c.args.self.now.left c.args.r.now c.requires.room.left c.requires.known

pub put_number-requires-2 : goal.put_number-requires-2
put_number-requires-2 c = has-slot c.args.plan.now c.args.self.now.running c.args.r.now c.requires.room.running c.requires.known

pub put_number-requires-3 : goal.put_number-requires-3
put_number-requires-3 c = has-slot c.args.plan.now c.args.self.now.waiting c.args.r.now c.requires.room.waiting c.requires.known

pub put_number-requires-4 : goal.put_number-requires-4
put_number-requires-4 c = has-slot c.args.plan.now c.args.self.now.steps c.args.r.now c.requires.room.steps c.requires.known

pub put_in_class-requires-clause-queue : goal.put_in_class-requires-clause-queue
put_in_class-requires-clause-queue c =
    let there = class-there c.args.plan.now c.args.prepared.now.classes c.requires.prepared.classes c.args.self.now.live.items c.requires.room.live c.args.r.now c.requires.known in
    omega (arith, there.0, c.class-class.ensures)

pub put_in_class-requires-clause-slot : goal.put_in_class-requires-clause-slot
put_in_class-requires-clause-slot c =
    let there = class-there c.args.plan.now c.args.prepared.now.classes c.requires.prepared.classes c.args.self.now.live.items c.requires.room.live c.args.r.now c.requires.known in
    omega (arith, there.1, c.slot-slot.ensures, ap (λ n. length (get_or c.args.self.now.live.items n [])) c.class-class.ensures)

pub put_in_class-requires-2-clause-queue : goal.put_in_class-requires-2-clause-queue
put_in_class-requires-2-clause-queue c =
    let there = class-there c.args.plan.now c.args.prepared.now.classes c.requires.prepared.classes c.args.self.now.ready.items c.requires.room.ready c.args.r.now c.requires.known in
    omega (arith, there.0, c.class-class.ensures)

pub put_in_class-requires-2-clause-slot : goal.put_in_class-requires-2-clause-slot
put_in_class-requires-2-clause-slot c =
    let there = class-there c.args.plan.now c.args.prepared.now.classes c.requires.prepared.classes c.args.self.now.ready.items c.requires.room.ready c.args.r.now c.requires.known in
    omega (arith, there.1, c.slot-slot.ensures, ap (λ n. length (get_or c.args.self.now.ready.items n [])) c.class-class.ensures)

pub returns-clause-room : goal.returns-clause-room
returns-clause-room c =
    put-room c.args.plan.now c.args.prepared.now.classes c.requires.prepared.classes c.args.state.now c.args.r.now c.requires.known c.args.self.now _ c.requires.room (record {
      left = rw c.is_left_running.ensures at c.put_number.ensures;
      running = rw c.runs_somewhere.ensures at c.put_number-2.ensures;
      waiting = rw c.waits_to_start.ensures at c.put_number-3.ensures;
      steps = rw c.has_step-step.ensures at c.put_number-4.ensures;
      live = rw (c.class-class.ensures, c.slot-slot.ensures, c.live_number.ensures) at c.put_in_class.ensures;
      ready = rw (c.class-class.ensures, c.slot-slot.ensures, c.ready_turn-turn.ensures) at c.put_in_class-2.ensures;
    })

pub returns-clause-kept : goal.returns-clause-kept
returns-clause-kept c =
    put-kept c.args.plan.now c.args.prepared.now.classes c.requires.prepared.classes c.args.state.now c.args.r.now c.requires.known c.args.self.now _ c.requires.room (record {
      left = rw c.is_left_running.ensures at c.put_number.ensures;
      running = rw c.runs_somewhere.ensures at c.put_number-2.ensures;
      waiting = rw c.waits_to_start.ensures at c.put_number-3.ensures;
      steps = rw c.has_step-step.ensures at c.put_number-4.ensures;
      live = rw (c.class-class.ensures, c.slot-slot.ensures, c.live_number.ensures) at c.put_in_class.ensures;
      ready = rw (c.class-class.ensures, c.slot-slot.ensures, c.ready_turn-turn.ensures) at c.put_in_class-2.ensures;
    })

pub returns-clause-own : goal.returns-clause-own
returns-clause-own c =
    put-own c.args.plan.now c.args.prepared.now.classes c.requires.prepared.classes c.args.state.now c.args.r.now c.requires.known c.args.self.now _ c.requires.room (record {
      left = rw c.is_left_running.ensures at c.put_number.ensures;
      running = rw c.runs_somewhere.ensures at c.put_number-2.ensures;
      waiting = rw c.waits_to_start.ensures at c.put_number-3.ensures;
      steps = rw c.has_step-step.ensures at c.put_number-4.ensures;
      live = rw (c.class-class.ensures, c.slot-slot.ensures, c.live_number.ensures) at c.put_in_class.ensures;
      ready = rw (c.class-class.ensures, c.slot-slot.ensures, c.ready_turn-turn.ensures) at c.put_in_class-2.ensures;
    })
