use Rattle.std.proofs.Common.{◌-◌, ◌<◌, subst, sym}
use Rattle.conc_history_check.proofs.Brought.{brought-coming, brought-keys, brought-next, brought-since, brought-start, keyed, keyed-less}
use Rattle.conc_history_check.proofs.coming.bring.Goals as goal

pub loop-r-init : goal.loop-r-init
loop-r-init c = brought-start c.args.plan.now c.args.prepared.now.classes c.args._before c.args.state.now c.args.marks.now c.args.coming.now c.requires.room c.requires.coming c.requires.later

pub next_come-requires : goal.next_come-requires
next_come-requires c = record { keys = brought-keys c.args.plan.now c.args.prepared.now.classes c.args._before c.args.state.now c.args.marks.now c.loop-r.coming c.loop-r.marks c.loop-r.invariant }

pub take_next-requires-clause-room : goal.take_next-requires-clause-room
take_next-requires-clause-room c = c.loop-r.invariant.room

pub take_next-requires-clause-size : goal.take_next-requires-clause-size
take_next-requires-clause-size c = c.loop-r.invariant.size

pub loop-r-smaller : goal.loop-r-smaller
loop-r-smaller c =
    subst (λ l. keyed l < keyed c.loop-r.coming) (sym c.take_next.ensures.taken)
    (keyed-less c.loop-r.coming (c.in-Some.r.now.number.number - 1) c.in-Some.ensures.key c.in-Some.ensures.there)

pub loop-r-preserved : goal.loop-r-preserved
loop-r-preserved c =
    brought-next c.args.plan.now c.args.prepared.now.classes c.args._before c.args.state.now c.args.marks.now c.loop-r.coming c.take_next.new.coming c.loop-r.marks c.take_next.new.marks c.in-Some.r.now c.loop-r.invariant
    c.in-Some.ensures.own c.in-Some.ensures.come c.take_next.ensures.taken c.take_next.ensures.room c.take_next.ensures.kept c.take_next.ensures.own

pub returns-clause-room : goal.returns-clause-room
returns-clause-room c = c.loop-r.invariant.room

pub returns-clause-kept : goal.returns-clause-kept
returns-clause-kept c = c.loop-r.invariant.kept

pub returns-clause-since : goal.returns-clause-since
returns-clause-since c = brought-since c.args.plan.now c.args.prepared.now.classes c.args._before c.args.state.now c.args.marks.now c.loop-r.coming c.loop-r.marks c.loop-r.invariant c.in_default.ensures

pub returns-clause-coming : goal.returns-clause-coming
returns-clause-coming c = brought-coming c.args.plan.now c.args.prepared.now.classes c.args._before c.args.state.now c.args.marks.now c.loop-r.coming c.loop-r.marks c.loop-r.invariant c.in_default.ensures
