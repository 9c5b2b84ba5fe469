use Rattle.std.proofs.Common.{arith}
use Rattle.conc_show_model.proofs.AllMoments.{moments_all, moments_more}
use Rattle.conc_show_model.proofs.turns.moments.Goals as goal

pub loop-event-preserved : goal.loop-event-preserved
loop-event-preserved c =
    moments_more c.args.events.now c.loop-event.moments.items c.push.new.self.items c.loop-event.event-index c.loop-event.now c.moment_after-now.result _ (omega arith) c.event-item.is c.loop-event.invariant
    c.moment_after-now.ensures c.in_ok-push.ensures.items

pub returns : goal.returns
returns c = moments_all c.args.events.now c.loop-event.moments.items c.loop-event.event-index c.loop-event.now (omega arith) c.loop-event.invariant
