use Rattle.std.proofs.Common.{sym, ◌∙◌, add-one, arith}
use Rattle.conc_event_effects.proofs.Passes.{all_after-more}
use Rattle.conc_event_reach.proofs.Passes.{pass-before, pass-from}
use Rattle.conc_history_replay.proofs.replay.step_within.Goals as goal

pub loop-i-init : goal.loop-i-init
loop-i-init c = sym (pass-before c.args.plan.now c.args.named c.args.e c.args.span _ c.requires)

pub loop-i-preserved : goal.loop-i-preserved
loop-i-preserved c =
    rw add-one (c.step_at.ensures ∙ rw c.loop-i.invariant (all_after-more _ _ _ c.loop-i.i _ _))

pub returns : goal.returns
returns c =
    c.loop-i.invariant
    ∙ pass-from c.args.plan.now c.args.named c.args.e c.args.span _ c.loop-i.i c.requires (omega (arith, c.loop-i-test.false))
