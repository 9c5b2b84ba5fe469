use Rattle.std.proofs.Common.{◌∙◌, sym, ap, arith, length, length-append, refl}
use Rattle.conc_plan.proofs.Parts.{entered_more, length-members, members-drop}
use Rattle.conc_plan.proofs.entering.enter_members.Goals as goal

pub loop-stage-preserved : goal.loop-stage-preserved
loop-stage-preserved c =
    let split = members-drop c.loop-stage.number _ _ c.loop-stage.stage-index c.stage-item.result refl (omega arith) c.stage-item.is in
    let many = length-members c.loop-stage.number c.stage-item.result ∙ sym c.len.ensures in
    record {
      number = omega arith;
      fits = omega (arith, simp length-append at (ap length split), many);
      entered = entered_more c.args.command.setup.now _ _ c.args.command.order.now.act _ _ _ _ _ _ _ _ split many c.in_ok-enter_stage.ensures c.loop-stage.invariant.entered;
    }
