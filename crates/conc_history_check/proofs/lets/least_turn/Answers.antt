use Rattle.std.proofs.Common.{◌+◌, ◌<◌, sym, subst, arith}
use Rattle.conc_event_classes.specs.Classes.{class_at}
use Rattle.conc_history_check.specs.Lets.{IsLeastTurn}
use Rattle.conc_history_check.proofs.Classed.{least-turn-is, least-turn-more, least-turn-start}
use Rattle.conc_history_check.proofs.Slots.{class-there}
use Rattle.conc_history_check.proofs.lets.least_turn.Goals as goal

pub loop-class-init : goal.loop-class-init
loop-class-init c = least-turn-start c.args.position.plan.now c.args.position.prepared.now.classes c.args.position.state.now

pub loop-class-preserved : goal.loop-class-preserved
loop-class-preserved c =
    subst (λ b. IsLeastTurn c.args.position.plan.now c.args.position.state.now (λ q. class_at c.args.position.prepared.now.classes q < c.loop-class.class + 1) b) (sym c.lesser-best.ensures)
    (least-turn-more c.args.position.plan.now c.args.position.prepared.now.classes c.args.position.state.now c.loop-class.class c.loop-class.best _ c.loop-class.invariant c.least_in_class.ensures)

pub returns : goal.returns
returns c =
    let classes = c.args.position.prepared.now.classes in
    least-turn-is c.args.position.plan.now c.args.position.state.now (λ q. class_at classes q < c.loop-class.class) c.loop-class.best
    (λ q has.
    let there = class-there c.args.position.plan.now classes c.requires.prepared.classes c.args.position.marks.now.ready.items c.requires.kept.marks.room.ready q has in
    omega (arith, there.0, c.loop-class-test.false, c.len-class-end.ensures))
    c.loop-class.invariant
