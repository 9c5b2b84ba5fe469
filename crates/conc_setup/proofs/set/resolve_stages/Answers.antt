use Rattle.std.proofs.Common.{◌∙◌, arith}
use Rattle.conc_setup.specs.ThirdPass.{resolved_stage}
use Rattle.conc_setup.proofs.Each.{enumerated_all, enumerated_more}
use Rattle.conc_setup.proofs.set.resolve_stages.Goals as goal
use Rattle.conc_setup.proofs.set.resolve_stages.Goals.{in-Ok+in_ok-push-in-Ok, in-Err-Refused+in_ok-push-in-Err-Refused}

pub loop-at-preserved : goal.loop-at-preserved
loop-at-preserved c =
    let more = enumerated_more (resolved_stage c.args.items.now.programs.now c.args.stages.now) c.args.stages.now c.loop-at.at c.index-stages-at.result (omega arith) c.index-stages-at.is in
    elim c.match-resolve_stage.branch [
      | in-Ok+in_ok-push-in-Ok w ↦
          let is = rw w.in-Ok.is at c.resolve_stage.ensures in
          rw (w.all-is, more, ← c.loop-at.invariant, ← is) w.in_ok-push-in-Ok.ensures.items
      | in-Err-Refused+in_ok-push-in-Err-Refused w ↦
          let is = rw (w.in-Err-Refused.is, w.in-Err-Refused.field-0-is) at c.resolve_stage.ensures in
          rw (w.all-is, more, ← c.loop-at.invariant, ← is) w.in_ok-push-in-Err-Refused.ensures.items
    ]

pub returns : goal.returns
returns c =
    c.from_vec.ensures ∙ (c.loop-at.invariant ∙ enumerated_all (resolved_stage c.args.items.now.programs.now c.args.stages.now) c.args.stages.now c.loop-at.at c.loop-at-test.false)
