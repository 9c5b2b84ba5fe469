use Rattle.std.proofs.Common.{◌++◌, [], ◌∷◌, ◌∙◌, ap, arith}
use Rattle.conc_event_queue.specs.Least.{vacant}
use Rattle.conc_history_check.proofs.Slots.{vacant-all, vacant-more, vacant-start}
use Rattle.conc_history_check.proofs.marks.vacant_queues.Goals as goal

pub loop-class-init : goal.loop-class-init
loop-class-init c = vacant-start c.args.classes.now _ c.in_ok-queues.ensures.items

pub loop-class-preserved : goal.loop-class-preserved
loop-class-preserved c =
    vacant-more c.args.classes.now c.loop-class.class c.loop-class.queues.items _ (omega arith) c.loop-class.invariant
    (c.in_ok-push.ensures.items ∙ ap (λ q. c.loop-class.queues.items ++ q ∷ []) (c.in_ok-new.ensures ∙ ap vacant c.size-size.ensures))

pub returns : goal.returns
returns c = vacant-all c.args._plan.now c.args.classes.now c.loop-class.class c.loop-class.queues.items (omega arith) c.loop-class.invariant
