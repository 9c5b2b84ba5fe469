use Rattle.std.proofs.Common.{sym, ◌∙◌, add-one, arith}
use Rattle.conc_types.specs.declared.event.Event.TheVariants as event
use Rattle.conc_event_effects.proofs.Passes.{all_after-more}
use Rattle.conc_event_reach.proofs.Passes.{all_after-before, all_after-from}
use Rattle.conc_event_reach.proofs.Within.{bounds_within}
use Rattle.conc_history_replay.proofs.OfCommands.{entry-leaves}
use Rattle.conc_history_replay.proofs.replay.enter.Goals as goal

pub loop-i-init : goal.loop-i-init
loop-i-init c = λ named.
    sym (all_after-before c.args.plan.now named (event.Command c.args.number) c.args.span _ (entry-leaves _ _ _ c.requires))

pub enter_at-requires-clause-within : goal.enter_at-requires-clause-within
enter_at-requires-clause-within c = bounds_within c.loop-i.i c.args.span (omega (arith, c.loop-i-test.true)) (omega (arith, c.loop-i-test.true))

pub loop-i-preserved : goal.loop-i-preserved
loop-i-preserved c = λ named.
    rw add-one (c.enter_at.ensures named ∙ rw (c.loop-i.invariant named) (all_after-more _ _ _ c.loop-i.i _ _))

pub returns : goal.returns
returns c = λ named.
    c.loop-i.invariant named
    ∙ all_after-from c.args.plan.now named (event.Command c.args.number) c.args.span _ c.loop-i.i (entry-leaves _ _ _ c.requires) (omega (arith, c.loop-i-test.false))
