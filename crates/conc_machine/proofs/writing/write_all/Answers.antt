use Rattle.std.proofs.Common.{add-one, arith}
use Rattle.conc_event_effects.proofs.Passes.{all_after-more}
use Rattle.conc_event_reach.proofs.Passes.{pass-from}
use Rattle.conc_machine.proofs.Passes.{AreFacts-is, AreFacts-none, AreFacts-then}
use Rattle.conc_machine.proofs.writing.write_all.Goals as goal

pub loop-i-init : goal.loop-i-init
loop-i-init c =
    (c.requires.parts, AreFacts-none c.args.plan.now c.args.indexes.now c.args.named c.args.e c.args.span c.requires.leaves)

pub loop-i-preserved : goal.loop-i-preserved
loop-i-preserved c =
    rw add-one (
      c.write_next.ensures.parts,
      AreFacts-is c.args.indexes.now c.write_next.new.indexes _ _
          (AreFacts-then c.args.indexes.now c.loop-i.indexes c.write_next.new.indexes _ _ c.loop-i.invariant.1 c.write_next.ensures.facts)
          (rw c.loop-i.invariant.1.facts (all_after-more _ _ _ c.loop-i.i _ _)),
    )

pub returns-clause-facts : goal.returns-clause-facts
returns-clause-facts c =
    AreFacts-is c.args.indexes.now c.loop-i.indexes _ _ c.loop-i.invariant.1
    (pass-from c.args.plan.now c.args.named c.args.e c.args.span c.args.indexes.now.state.facts c.loop-i.i c.requires.leaves (omega (arith, c.loop-i-test.false)))
